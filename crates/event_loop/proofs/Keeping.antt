-- What a hub keeps while its sessions are served, and as they come and leave.
use Rattle.std.proofs.Common.{◌≡◌, ◌≢◌, ◌⊎◌, inl, inr, ◌<◌, ◌≤◌, ℕ, suc, List, [], ◌∷◌, ◌++◌, Option, Some, None, true, false, ap, sym, ◌∙◌, refl, subst, append_assoc, arith, is_some, slice_index_or}
use Rattle.std.proofs.Math.ListN.{set}
use Rattle.std.proofs.lemmas.List.{append-nil, set-get_or}
use Rattle.std.proofs.lemmas.Grind.{common_steps}
use Rattle.slab.specs.Slab.{Slab, ContainsKey, Updates, get, slab_len, with_value}
use Rattle.slab.proofs.SlabLemmas.{ContainsKey-within, Updates-set, Updates-with_value}
use Rattle.http_messages.specs.declared.front.Fault.{Fault}
use Rattle.http_connection.specs.Requests.{HttpRequestData}
use Rattle.http_connection.specs.declared.stage.Stage.TheVariants as stage
use Rattle.http_connection.specs.Connections.{new_connection}
use Rattle.http_connection.specs.Sessions.{SessionData}
use Rattle.http_connection.specs.Steps.{Step}
use Rattle.http_connection.specs.declared.ended.Ended.{Ended}
use Rattle.http_connection.proofs.Chains.{steps_behind}
use Rattle.event_loop.specs.declared.departing.Cause.{Cause}
use Rattle.event_loop.specs.declared.departing.Cause.TheVariants as cause
use Rattle.event_loop.specs.declared.opened.Opened.{Opened}
use Rattle.event_loop.specs.declared.hub.Hub.{Hub}
use Rattle.event_loop.specs.Departures.{Departed, LeavesSo, Records}
use Rattle.event_loop.specs.Hubs.{IsAt, IsHub, HasLeft, HaveLived, HasTended, HasTurned, Keeps}
use Rattle.event_loop.specs.Lives.{IsLife, LivesOn, AreLives, Differs, AreDistinct, AreBelow, IsIn}
use Rattle.event_loop.specs.Log.{LoggedStep, HasServed, IsConnection, all_steps, steps_of, tag}
use Rattle.event_loop.proofs.Living.{life_new}
use Rattle.event_loop.proofs.Logs.{all_both, either, steps_other, steps_own}

-- ---- lists that are known or not

pub records_none : {A : Type 0} (v : Option (List A)) → Records v v []
records_none None = tt
records_none (Some xs) = refl

pub records_on : {A : Type 0} (a b c : Option (List A)) (one two : List A) → Records a b one → Records b c two → Records a c (two ++ one)
records_on None b c one two h k = tt
records_on (Some xs) None c one two h k = absurd h
records_on (Some xs) (Some ys) None one two h k = absurd k
records_on (Some xs) (Some ys) (Some zs) one two h k = k ∙ ap (λ z. two ++ z) h ∙ sym (append_assoc two one xs)

-- ---- slabs

apart_bools : true ≡ false → ⊥
apart_bools h = grind arith

no_value : {A : Type 0} (x : A) → Some x ≡ None → ⊥
no_value x h = apart_bools (ap is_some h)

or_else : {A : Type 0} → A → Option A → A
or_else d None = d
or_else d (Some x) = x

same_value : {A : Type 0} (x y : A) → Some x ≡ Some y → x ≡ y
same_value x y h = ap (λ o. elim o [ None ↦ x | Some z ↦ z ]) h

left_was : {A : Type 0} (old new : Slab A) (key other : ℕ) (x : A) → Updates old new key None → get new other ≡ Some x → (get old other ≡ Some x) × (other ≢ key)
left_was old new key other x updates is = left_by (either other key) where
  left_by : (other ≡ key) ⊎ (other ≢ key) → (get old other ≡ Some x) × (other ≢ key)
  left_by (inl same) = absurd (no_value x (sym is ∙ ap (λ k. get new k) same ∙ updates.changed))
  left_by (inr apart) = (sym (updates.others other apart) ∙ is, apart)

is_or_was : {A : Type 0} (old new : Slab A) (key other : ℕ) (x y : A) → Updates old new key (Some y) → get new other ≡ Some x → ((other ≡ key) × (y ≡ x)) ⊎ ((other ≢ key) × (get old other ≡ Some x))
is_or_was old new key other x y updates is = is_by (either other key) where
  is_by : (other ≡ key) ⊎ (other ≢ key) → ((other ≡ key) × (y ≡ x)) ⊎ ((other ≢ key) × (get old other ≡ Some x))
  is_by (inl same) = inl (same, same_value y x (sym updates.changed ∙ ap (λ k. get new k) (sym same) ∙ is))
  is_by (inr apart) = inr (apart, sym (updates.others other apart) ∙ is)

no_slot_in : {A : Type 0} (slots : List (Option A)) (key : ℕ) (x : A) → slots ≡ [] → slice_index_or slots key None ≡ Some x → ⊥
no_slot_in slots key x none is = no_value x (sym is ∙ ap (λ z. slice_index_or z key None) none)

nobody_there : {A : Type 0} (slab : Slab A) (key : ℕ) (x : A) → slab_len slab ≡ 0 → get slab key ≡ Some x → ⊥
nobody_there slab key x none is = grind (arith, common_steps)

-- the slab without the value under a key
abbrev without : {A : Type 0} → Slab A → ℕ → Slab A
without slab key = record slab { slots = set slab.slots key None }

there : {A : Type 0} (slab : Slab A) (key : ℕ) (x : A) → get slab key ≡ Some x → ContainsKey slab key
there slab key x here = rw here refl

out_of : {A : Type 0} (slab : Slab A) (key : ℕ) (x : A) → get slab key ≡ Some x → Updates slab (without slab key) key None
out_of slab key x here = Updates-set slab (without slab key) key None (ContainsKey-within slab key (there slab key x here)) refl

out_back : {A : Type 0} (slab : Slab A) (key : ℕ) (x y : A) → get slab key ≡ Some x → Updates (without slab key) (with_value slab key y) key (Some y)
out_back slab key x y here = record {
  changed = within.changed;
  others = λ other apart. within.others other apart ∙ sym ((out_of slab key x here).others other apart);
} where
  within : Updates slab (with_value slab key y) key (Some y)
  within = Updates-with_value slab key y (there slab key x here)

taken_behind : {A : Type 0} (old mid new : Slab A) (key : ℕ) (x y : A) → get old key ≡ Some x → mid ≡ with_value old key y → Updates mid new key None → Updates old new key None
taken_behind old mid new key x y here kept updates = record {
  changed = updates.changed;
  others = λ other apart. updates.others other apart ∙ (ap (λ s. get s other) kept ∙ (Updates-with_value old key y (there old key x here)).others other apart);
}

pub with_here : {A : Type 0} (slab : Slab A) (key : ℕ) (x y : A) → get slab key ≡ Some x → get (with_value slab key y) key ≡ Some y
with_here slab key x y here = (Updates-with_value slab key y (there slab key x here)).changed

-- a value that is written back as it was changes nothing
pub same_slab : {A : Type 0} (slab : Slab A) (key : ℕ) (x : A) → get slab key ≡ Some x → with_value slab key x ≡ slab
same_slab slab key x here = ap (λ slots. record slab { slots = slots }) (subst (λ slot. set slab.slots key slot ≡ slab.slots) here (set-get_or slab.slots key None))

-- ---- numbers

differs_above : {T : Type 0} (next : ℕ) (left : List (Departed T)) → AreBelow next left → Differs next left
differs_above next [] below = tt
differs_above next (one ∷ left) below = ((λ same. (let low = below.0 in omega (arith, same, low))), differs_above next left below.1)

below_more : {T : Type 0} (next : ℕ) (left : List (Departed T)) → AreBelow next left → AreBelow (suc next) left
below_more next [] below = tt
below_more next (one ∷ left) below = ((let low = below.0 in omega (arith, low)), below_more next left below.1)

module _ {T : Type 0} (remaining contents : T → Option (List ℕ)) (is_new : T → Type 0) where
  module _ (refusal : Fault → List ℕ) where
    lives_on : (log : List LoggedStep) (left : List (Departed T)) (number : ℕ) (own : List Step) → Differs number left → AreLives remaining contents is_new refusal log left → AreLives remaining contents is_new refusal (log ++ tag number own) left
    lives_on log [] number own differs lives = tt
    lives_on log (one ∷ left) number own differs (life, leaves, lives) = (rw (steps_other log one.number number own differs.0) life, leaves, lives_on log left number own differs.1 lives)

    -- what is kept of a hub while the session of a number is out
    record IsOut (log : List LoggedStep) (left : List (Departed T)) (slab : Slab (Opened T)) (next number : ℕ) : Type 0 where
      stands : (key : ℕ) (one : Opened T) → get slab key ≡ Some one → IsLife remaining contents is_new refusal (steps_of one.number log) one.session
      numbered : (key : ℕ) (one : Opened T) → get slab key ≡ Some one → one.number < next
      apart : (key other : ℕ) (one two : Opened T) → get slab key ≡ Some one → get slab other ≡ Some two → one.number ≡ two.number → key ≡ other
      absent : (key : ℕ) (one : Opened T) → get slab key ≡ Some one → Differs one.number left
      alone : (key : ℕ) (one : Opened T) → get slab key ≡ Some one → one.number ≢ number
      low : number < next
      gone : Differs number left
      fresh : (n : ℕ) → next ≤ n → steps_of n log ≡ []
      lives : AreLives remaining contents is_new refusal log left
      distinct : AreDistinct left
      below : AreBelow next left
      owned : (n : ℕ) → (n ≡ number) ⊎ ((steps_of n log ≡ []) ⊎ (IsAt slab n ⊎ IsIn n left))

    out : (log : List LoggedStep) (left : List (Departed T)) (old slab : Slab (Opened T)) (next key : ℕ) (one : Opened T) → Updates old slab key None → get old key ≡ Some one → IsHub remaining contents is_new refusal log left old next → IsOut log left slab next one.number
    out log left old slab next key one updates here hub = record {
      stands = λ k other is. hub.stands k other (left_was old slab key k other updates is).0;
      numbered = λ k other is. hub.numbered k other (left_was old slab key k other updates is).0;
      apart = λ k j other two is too same. hub.apart k j other two (left_was old slab key k other updates is).0 (left_was old slab key j two updates too).0 same;
      absent = λ k other is. hub.absent k other (left_was old slab key k other updates is).0;
      alone = λ k other is same. (let was = left_was old slab key k other updates is in was.1 (hub.apart k key other one was.0 here same));
      low = hub.numbered key one here;
      gone = hub.absent key one here;
      fresh = hub.fresh;
      lives = hub.lives;
      distinct = hub.distinct;
      below = hub.below;
      owned = λ n. by_owned n (hub.owned n);
    } where
      by_key : (n k : ℕ) (other : Opened T) → get old k ≡ Some other → other.number ≡ n → (k ≡ key) ⊎ (k ≢ key) → (n ≡ one.number) ⊎ ((steps_of n log ≡ []) ⊎ (IsAt slab n ⊎ IsIn n left))
      by_key n k other is number (inl same) = inl (sym number ∙ ap (λ o. o.number) (same_value other one (sym is ∙ ap (λ z. get old z) same ∙ here)))
      by_key n k other is number (inr apart) = inr (inr (inl (k, other, updates.others k apart ∙ is, number)))

      by_owned : (n : ℕ) → (steps_of n log ≡ []) ⊎ (IsAt old n ⊎ IsIn n left) → (n ≡ one.number) ⊎ ((steps_of n log ≡ []) ⊎ (IsAt slab n ⊎ IsIn n left))
      by_owned n (inl none) = inr (inl none)
      by_owned n (inr (inl (k, other, is, number))) = by_key n k other is number (either k key)
      by_owned n (inr (inr is)) = inr (inr (inr is))

    out_steps : (log : List LoggedStep) (left : List (Departed T)) (slab : Slab (Opened T)) (next number : ℕ) (own : List Step) → IsOut log left slab next number → IsOut (log ++ tag number own) left slab next number
    out_steps log left slab next number own hub = record {
      stands = λ k other is. rw (steps_other log other.number number own (hub.alone k other is)) (hub.stands k other is);
      numbered = hub.numbered;
      apart = hub.apart;
      absent = hub.absent;
      alone = hub.alone;
      low = hub.low;
      gone = hub.gone;
      fresh = λ n high. (let low = hub.low in steps_other log n number own (λ same. omega (arith, same, low, high)) ∙ hub.fresh n high);
      lives = lives_on log left number own hub.gone hub.lives;
      distinct = hub.distinct;
      below = hub.below;
      owned = λ n. by_owned n (either n number) (hub.owned n);
    } where
      by_owned : (n : ℕ) → (n ≡ number) ⊎ (n ≢ number) → (n ≡ number) ⊎ ((steps_of n log ≡ []) ⊎ (IsAt slab n ⊎ IsIn n left)) → (n ≡ number) ⊎ ((steps_of n (log ++ tag number own) ≡ []) ⊎ (IsAt slab n ⊎ IsIn n left))
      by_owned n (inl same) owned = inl same
      by_owned n (inr apart) (inl same) = inl same
      by_owned n (inr apart) (inr (inl none)) = inr (inl (steps_other log n number own apart ∙ none))
      by_owned n (inr apart) (inr (inr is)) = inr (inr is)

    -- it leaves
    closed : (log : List LoggedStep) (left : List (Departed T)) (slab : Slab (Opened T)) (next number : ℕ) (session : SessionData T) (cause : Cause) → IsOut log left slab next number
        → IsLife remaining contents is_new refusal (steps_of number log) session → LeavesSo cause session.connection
        → IsHub remaining contents is_new refusal log (record { number = number; session = session; cause = cause } ∷ left) slab next
    closed log left slab next number session cause hub life leaves = record {
      stands = hub.stands;
      numbered = hub.numbered;
      apart = hub.apart;
      absent = λ k other is. ((λ same. hub.alone k other is (sym same)), hub.absent k other is);
      fresh = hub.fresh;
      lives = (life, leaves, hub.lives);
      distinct = (hub.gone, hub.distinct);
      below = (hub.low, hub.below);
      owned = λ n. by_owned n (hub.owned n);
    } where
      by_owned : (n : ℕ) → (n ≡ number) ⊎ ((steps_of n log ≡ []) ⊎ (IsAt slab n ⊎ IsIn n left)) → (steps_of n log ≡ []) ⊎ (IsAt slab n ⊎ ((number ≡ n) ⊎ IsIn n left))
      by_owned n (inl same) = inr (inr (inl (sym same)))
      by_owned n (inr (inl none)) = inl none
      by_owned n (inr (inr (inl at))) = inr (inl at)
      by_owned n (inr (inr (inr is))) = inr (inr (inr is))

    -- or comes in, again or for the first time, below a next number
    back_at : (log : List LoggedStep) (left : List (Departed T)) (slab after : Slab (Opened T)) (next number at : ℕ) (one : Opened T) → Updates slab after at (Some one) → get slab at ≡ None → one.number ≡ number
        → IsLife remaining contents is_new refusal (steps_of number log) one.session → IsOut log left slab next number → IsHub remaining contents is_new refusal log left after next
    back_at log left slab after next number at one updates free is_number life hub = record {
      stands = λ k other is. by_stands k other (is_or_was slab after at k other one updates is);
      numbered = λ k other is. by_numbered k other (is_or_was slab after at k other one updates is);
      apart = λ k j other two is too same. by_apart k j other two same (is_or_was slab after at k other one updates is) (is_or_was slab after at j two one updates too);
      absent = λ k other is. by_absent k other (is_or_was slab after at k other one updates is);
      fresh = hub.fresh;
      lives = hub.lives;
      distinct = hub.distinct;
      below = hub.below;
      owned = λ n. by_owned n (hub.owned n);
    } where
      by_stands : (k : ℕ) (other : Opened T) → ((k ≡ at) × (one ≡ other)) ⊎ ((k ≢ at) × (get slab k ≡ Some other)) → IsLife remaining contents is_new refusal (steps_of other.number log) other.session
      by_stands k other (inl here) = subst (λ o. IsLife remaining contents is_new refusal (steps_of o.number log) o.session) here.1 (rw is_number life)
      by_stands k other (inr was) = hub.stands k other was.1

      by_numbered : (k : ℕ) (other : Opened T) → ((k ≡ at) × (one ≡ other)) ⊎ ((k ≢ at) × (get slab k ≡ Some other)) → other.number < next
      by_numbered k other (inl here) = subst (λ o. o.number < next) here.1 (rw is_number hub.low)
      by_numbered k other (inr was) = hub.numbered k other was.1

      by_absent : (k : ℕ) (other : Opened T) → ((k ≡ at) × (one ≡ other)) ⊎ ((k ≢ at) × (get slab k ≡ Some other)) → Differs other.number left
      by_absent k other (inl here) = subst (λ o. Differs o.number left) here.1 (rw is_number hub.gone)
      by_absent k other (inr was) = hub.absent k other was.1

      by_apart : (k j : ℕ) (other two : Opened T) → other.number ≡ two.number → ((k ≡ at) × (one ≡ other)) ⊎ ((k ≢ at) × (get slab k ≡ Some other)) → ((j ≡ at) × (one ≡ two)) ⊎ ((j ≢ at) × (get slab j ≡ Some two)) → k ≡ j
      by_apart k j other two same (inl here) (inl there) = here.0 ∙ sym there.0
      by_apart k j other two same (inl here) (inr was) = absurd (hub.alone j two was.1 (sym same ∙ sym (ap (λ o. o.number) here.1) ∙ is_number))
      by_apart k j other two same (inr was) (inl there) = absurd (hub.alone k other was.1 (same ∙ sym (ap (λ o. o.number) there.1) ∙ is_number))
      by_apart k j other two same (inr was) (inr too) = hub.apart k j other two was.1 too.1 same

      by_owned : (n : ℕ) → (n ≡ number) ⊎ ((steps_of n log ≡ []) ⊎ (IsAt slab n ⊎ IsIn n left)) → (steps_of n log ≡ []) ⊎ (IsAt after n ⊎ IsIn n left)
      by_owned n (inl same) = inr (inl (at, one, updates.changed, is_number ∙ sym same))
      by_owned n (inr (inl none)) = inl none
      by_owned n (inr (inr (inl (k, other, is, own)))) = inr (inl (k, other, updates.others k (λ same. no_value other (sym is ∙ ap (λ z. get slab z) same ∙ free)) ∙ is, own))
      by_owned n (inr (inr (inr is))) = inr (inr is)

    -- the next number is of nobody yet
    out_next : (log : List LoggedStep) (left : List (Departed T)) (slab : Slab (Opened T)) (next : ℕ) → IsHub remaining contents is_new refusal log left slab next → IsOut log left slab (suc next) next
    out_next log left slab next hub = record {
      stands = hub.stands;
      numbered = λ k other is. (let low = hub.numbered k other is in omega (arith, low));
      apart = hub.apart;
      absent = hub.absent;
      alone = λ k other is same. (let low = hub.numbered k other is in omega (arith, low, same));
      low = omega arith;
      gone = differs_above next left hub.below;
      fresh = λ n high. hub.fresh n (omega (arith, high));
      lives = hub.lives;
      distinct = hub.distinct;
      below = below_more next left hub.below;
      owned = λ n. inr (hub.owned n);
    }

  -- ---- nothing is answered

  pub tended_same : (old : Hub T) (slab : Slab (Opened T)) (was is : Option (List (Departed T))) → ((key : ℕ) → get slab key ≡ get old.connections key) → is ≡ was → HasTended remaining contents is_new old was (record { connections = slab; next = old.next }) is
  tended_same old slab was is same known = (
    [],
    rw known (records_none was),
    λ refusal log left hub. (record {
      stands = λ k one here. hub.stands k one (sym (same k) ∙ here);
      numbered = λ k one here. hub.numbered k one (sym (same k) ∙ here);
      apart = λ k j one two here there. hub.apart k j one two (sym (same k) ∙ here) (sym (same j) ∙ there);
      absent = λ k one here. hub.absent k one (sym (same k) ∙ here);
      fresh = hub.fresh;
      lives = hub.lives;
      distinct = hub.distinct;
      below = hub.below;
      owned = λ n. by_owned refusal log left hub n (hub.owned n);
    }),
  ) where
    by_owned : (refusal : Fault → List ℕ) (log : List LoggedStep) (left : List (Departed T)) → IsHub remaining contents is_new refusal log left old.connections old.next → (n : ℕ) → (steps_of n log ≡ []) ⊎ (IsAt old.connections n ⊎ IsIn n left) → (steps_of n log ≡ []) ⊎ (IsAt slab n ⊎ IsIn n left)
    by_owned refusal log left hub n (inl none) = inl none
    by_owned refusal log left hub n (inr (inl (k, one, here, number))) = inr (inl (k, one, same k ∙ here, number))
    by_owned refusal log left hub n (inr (inr is)) = inr (inr is)

  pub tended_none : (old : Hub T) (was : Option (List (Departed T))) → HasTended remaining contents is_new old was old was
  tended_none old was = ([], records_none was, λ refusal log left hub. hub)

  pub tended_known : (old : Hub T) (was is : Option (List (Departed T))) → is ≡ was → HasTended remaining contents is_new old was old is
  tended_known old was is known = ([], rw known (records_none was), λ refusal log left hub. hub)

  pub tended_on : (a b c : Hub T) (was now is : Option (List (Departed T))) → HasTended remaining contents is_new a was b now → HasTended remaining contents is_new b now c is → HasTended remaining contents is_new a was c is
  tended_on a b c was now is (one, recorded, keeps) (two, again, goes) = (
    two ++ one,
    records_on was now is one two recorded again,
    λ refusal log left hub. subst (λ z. IsHub remaining contents is_new refusal log z c.connections c.next) (sym (append_assoc two one left)) (goes refusal log (one ++ left) (keeps refusal log left hub)),
  )

  -- one was taken out, and left
  pub tended_out : (old : Hub T) (slab : Slab (Opened T)) (key : ℕ) (one : Opened T) (cause : Cause) (was is : Option (List (Departed T))) → Updates old.connections slab key None → get old.connections key ≡ Some one → LeavesSo cause one.session.connection
      → Records was is (record { number = one.number; session = one.session; cause = cause } ∷ []) → HasTended remaining contents is_new old was (record { connections = slab; next = old.next }) is
  tended_out old slab key one cause was is updates here leaves records = (
    record { number = one.number; session = one.session; cause = cause } ∷ [],
    records,
    λ refusal log left hub. closed refusal log left slab old.next one.number one.session cause (out refusal log left old.connections slab old.next key one updates here hub) (hub.stands key one here) leaves,
  )

  -- or came back as it was
  pub tended_back : (old : Hub T) (slab after : Slab (Opened T)) (key at : ℕ) (one back : Opened T) (was is : Option (List (Departed T))) → Updates old.connections slab key None → get old.connections key ≡ Some one
      → Updates slab after at (Some back) → get slab at ≡ None → back.number ≡ one.number → back.session ≡ one.session → is ≡ was → HasTended remaining contents is_new old was (record { connections = after; next = old.next }) is
  tended_back old slab after key at one back was is updates here returns free number session known = (
    [],
    rw known (records_none was),
    λ refusal log left hub. back_at refusal log left slab after old.next one.number at back returns free number (rw session (hub.stands key one here)) (out refusal log left old.connections slab old.next key one updates here hub),
  )

  -- a new one came in
  pub tended_new : (old : Hub T) (after : Slab (Opened T)) (at next : ℕ) (one : Opened T) (was is : Option (List (Departed T))) → Updates old.connections after at (Some one) → get old.connections at ≡ None → one.number ≡ old.next → next ≡ suc old.next
      → is_new one.session.wire.inner → one.session.connection ≡ new_connection → is ≡ was → HasTended remaining contents is_new old was (record { connections = after; next = next }) is
  tended_new old after at next one was is updates free number more new none known = (
    [],
    rw known (records_none was),
    λ refusal log left hub. rw more (back_at refusal log left old.connections after (suc old.next) old.next at one updates free number
        (rw (hub.fresh old.next (omega arith)) (life_new remaining contents is_new refusal one.session new none)) (out_next refusal log left old.connections old.next hub)),
  )

  -- ---- sessions are served

  module _ {S C : Type 0} (refusal : Fault → List ℕ) (responds : S → ℕ → HttpRequestData → List ℕ → S → Type 0) (ticks : C → ℕ → C → Type 0) where
    pub turned_none : (old : Hub T) (slab : Slab (Opened T)) (s : S) (c : C) (was : Option (List (Departed T))) → slab ≡ old.connections → HasTurned remaining contents is_new refusal responds ticks old s c was (record { connections = slab; next = old.next }) s c was
    turned_none old slab s c was same = (0, [], [], (refl, refl), records_none was, tt, λ log left hub. rw (same, append-nil log) hub)

    -- the session under a key made steps, and stays
    pub turned_kept : (old new : Hub T) (key : ℕ) (one back : Opened T) (s : S) (c : C) (t : S) (d : C) (was is : Option (List (Departed T)))
        → get old.connections key ≡ Some one → new.connections ≡ with_value old.connections key back → back.number ≡ one.number → LivesOn remaining contents is_new refusal responds ticks one.session s c back.session t d
        → new.next ≡ old.next → is ≡ was → HasTurned remaining contents is_new refusal responds ticks old s c was new t d is
    turned_kept old new key one back s c t d was is here kept number (own, steps, lives) next known = (
      one.number,
      own,
      [],
      steps,
      rw known (records_none was),
      tt,
      λ log left hub. rw (next, kept) (back_at refusal (log ++ tag one.number own) left (without old.connections key) (with_value old.connections key back) old.next one.number key back (out_back old.connections key one back here) (out_of old.connections key one here).changed number
          (rw (steps_own log one.number own) (lives (steps_of one.number log) (hub.stands key one here)))
          (out_steps refusal log left (without old.connections key) old.next one.number own (out refusal log left old.connections (without old.connections key) old.next key one (out_of old.connections key one here) here hub))),
    )

    -- and left, as its turn ended it
    pub turned_left : (old mid new : Hub T) (key : ℕ) (one back : Opened T) (end : Ended) (s : S) (c : C) (t : S) (d : C) (was is : Option (List (Departed T)))
        → get old.connections key ≡ Some one → mid.connections ≡ with_value old.connections key back → back.number ≡ one.number → LivesOn remaining contents is_new refusal responds ticks one.session s c back.session t d
        → mid.next ≡ old.next → HasLeft key end back mid was new is → HasTurned remaining contents is_new refusal responds ticks old s c was new t d is
    turned_left old mid new key one back end s c t d was is here kept number (own, steps, lives) next left_so = (
      one.number,
      own,
      record { number = back.number; session = back.session; cause = cause.Ended end } ∷ [],
      steps,
      left_so.recorded,
      ((end, refl), tt),
      λ log left hub. rw (left_so.next, next, number) (closed refusal (log ++ tag one.number own) left new.connections old.next one.number back.session (cause.Ended end)
          (out_steps refusal log left new.connections old.next one.number own (out refusal log left old.connections new.connections old.next key one both here hub))
          (rw (steps_own log one.number own) (lives (steps_of one.number log) (hub.stands key one here))) left_so.leaves),
    ) where
      both : Updates old.connections new.connections key None
      both = taken_behind old.connections mid.connections new.connections key one back here kept left_so.updates

    pub keeps_first : (hub : Hub T) (s : S) (c : C) (was : Option (List (Departed T))) → hub.connections.slots ≡ [] → Keeps remaining contents is_new refusal responds ticks s c was hub s c was
    keeps_first hub s c was none = (
      [],
      [],
      (refl, refl),
      records_none was,
      record {
        stands = λ k one is. absurd (no_slot_in hub.connections.slots k one none is);
        numbered = λ k one is. absurd (no_slot_in hub.connections.slots k one none is);
        apart = λ k j one two is too same. absurd (no_slot_in hub.connections.slots k one none is);
        absent = λ k one is. tt;
        fresh = λ n high. refl;
        lives = tt;
        distinct = tt;
        below = tt;
        owned = λ n. inl refl;
      },
    )

    pub keeps_tended : (first : S) (begun : C) (from : Option (List (Departed T))) (old new : Hub T) (s : S) (c : C) (was is : Option (List (Departed T)))
        → Keeps remaining contents is_new refusal responds ticks first begun from old s c was → HasTended remaining contents is_new old was new is → Keeps remaining contents is_new refusal responds ticks first begun from new s c is
    keeps_tended first begun from old new s c was is (log, left, are, records, hub) (more, again, goes) = (log, more ++ left, are, records_on from was is left more records again, goes refusal log left hub)

    pub keeps_turned : (first : S) (begun : C) (from : Option (List (Departed T))) (old new : Hub T) (s : S) (c : C) (t : S) (d : C) (was is : Option (List (Departed T)))
        → Keeps remaining contents is_new refusal responds ticks first begun from old s c was → HasTurned remaining contents is_new refusal responds ticks old s c was new t d is → Keeps remaining contents is_new refusal responds ticks first begun from new t d is
    keeps_turned first begun from old new s c t d was is (log, left, are, records, hub) (number, own, more, steps, again, ended, goes) = (
      log ++ tag number own,
      more ++ left,
      rw (all_both log number own) (steps_behind responds ticks (all_steps log) own first begun s c t d are steps),
      records_on from was is left more records again,
      goes log left hub,
    )

    -- where none is open, all that were served have left
    pub lived_at_end : (first : S) (begun : C) (from : Option (List (Departed T))) (hub : Hub T) (s : S) (c : C) (is : Option (List (Departed T)))
        → Keeps remaining contents is_new refusal responds ticks first begun from hub s c is → slab_len hub.connections ≡ 0 → HaveLived remaining contents is_new refusal responds ticks first begun from s c is
    lived_at_end first begun from hub s c is (log, left, are, records, keeps) none = (log, left, are, records, keeps.lives, keeps.distinct, λ number. by_owned number (keeps.owned number)) where
      by_owned : (number : ℕ) → (steps_of number log ≡ []) ⊎ (IsAt hub.connections number ⊎ IsIn number left) → (steps_of number log ≡ []) ⊎ IsIn number left
      by_owned number (inl bare) = inl bare
      by_owned number (inr (inl (key, one, is, own))) = absurd (nobody_there hub.connections key one none is)
      by_owned number (inr (inr there)) = inr there

  -- ---- what is left of it where nothing is known of streams

  connection_by : (refusal : Fault → List ℕ) (steps : List Step) (session : SessionData T) (cause : Cause) → IsLife remaining contents is_new refusal steps session → LeavesSo cause session.connection → IsConnection refusal steps
  connection_by refusal steps session (cause.Ended end) life leaves = (life.bytes, life.text, session.connection.stage, session.connection.unread, life.sent, session.connection.pending, Some end, life.answered, life.split, leaves)
  connection_by refusal steps session (cause.Closed phase) life leaves = (life.bytes, life.text, session.connection.stage, session.connection.unread, life.sent, session.connection.pending, None, life.answered, life.split, tt)

  connection_of : (refusal : Fault → List ℕ) (log : List LoggedStep) (left : List (Departed T)) (number : ℕ) → AreLives remaining contents is_new refusal log left → IsIn number left → IsConnection refusal (steps_of number log)
  connection_of refusal log [] number lives is = absurd is
  connection_of refusal log (one ∷ left) number lives (inl same) = subst (λ n. IsConnection refusal (steps_of n log)) same (connection_by refusal (steps_of one.number log) one.session one.cause lives.0 lives.1)
  connection_of refusal log (one ∷ left) number lives (inr is) = connection_of refusal log left number lives.2 is

  pub served_by_lives : {S C : Type 0} (refusal : Fault → List ℕ) (responds : S → ℕ → HttpRequestData → List ℕ → S → Type 0) (ticks : C → ℕ → C → Type 0) (s : S) (c : C) (was : Option (List (Departed T))) (t : S) (d : C) (is : Option (List (Departed T)))
      → HaveLived remaining contents is_new refusal responds ticks s c was t d is → HasServed refusal responds ticks s c t d
  served_by_lives refusal responds ticks s c was t d is (log, left, are, records, lives, distinct, owned) = (log, are, λ number. by_owned number (owned number)) where
    by_owned : (number : ℕ) → (steps_of number log ≡ []) ⊎ IsIn number left → IsConnection refusal (steps_of number log)
    by_owned number (inl none) = rw none ([], [], stage.Open, [], [], [], None, (refl, tt, refl), refl, tt)
    by_owned number (inr there) = connection_of refusal log left number lives there
