-- One piece after another.
use Rattle.std.proofs.Common.{refl, ne_eqb, ◌≡◌, ◌≢◌, ℕ, ◌+◌, ◌-◌, ◌≤◌, ◌<◌, ◌==◌, ◌&&◌, nat_lt, List, [], ◌∷◌, ◌++◌, length, take, drop, Option, Some, None, Result, Ok, Err, ap, subst, sym, ◌∙◌, append_assoc, arith}
use Rattle.std.proofs.lemmas.Grind.{common_steps}
use Rattle.std.proofs.lemmas.List.{append-nil, take-append-drop}
use Rattle.std.proofs.Math.Seq.{take-add}
use Rattle.std.specs.Result.{OnErr}
use Rattle.std.specs.Io.KnownBytes.{Appends, Keeps}
use Rattle.counted_io.specs.Counting.{counted, AppendsPart, IsProperBeginning, AppendsProperPart}

pub appends_none : (v : Option (List ℕ)) → Appends v v []
appends_none None = tt
appends_none (Some p) = sym (append-nil p)

pub appends_more : (a b c : Option (List ℕ)) (x y : List ℕ) → Appends a b x → Appends b c y → Appends a c (x ++ y)
appends_more None b c x y h k = tt
appends_more (Some p) None c x y h k = absurd h
appends_more (Some p) (Some q) None x y h k = absurd k
appends_more (Some p) (Some q) (Some r) x y h k = k ∙ ap (λ t. t ++ y) h ∙ append_assoc p x y

pub appends_kept : (a b c : Option (List ℕ)) (x : List ℕ) → Appends a b x → Keeps b c → Appends a c x
appends_kept None b c x h k = tt
appends_kept (Some p) None c x h k = absurd h
appends_kept (Some p) (Some q) None x h k = absurd k
appends_kept (Some p) (Some q) (Some r) x h k = k ∙ h

-- the first pieces went out, and then the front of the rest
pub appends_next : (a b c : Option (List ℕ)) (s : List ℕ) (i n : ℕ) → Appends a b (take i s) → Appends b c (take n (take (length s - i) (drop i s))) → Appends a c (take (i + n) s)
appends_next a b c s i n h k =
    let whole : take (length s - i) (drop i s) ≡ drop i s = grind (arith, common_steps) in
    rw (take-add i n s) (appends_more a b c (take i s) (take n (drop i s)) h (rw whole at k))

pub sent_fits : (s : List ℕ) (i n : ℕ) → i ≤ length s → n ≤ length (take (length s - i) (drop i s)) → i + n ≤ length s
sent_fits s i n h k = grind (arith, common_steps)

pub taken_part : (a b : Option (List ℕ)) (s : List ℕ) (i : ℕ) → Appends a b (take i s) → AppendsPart a b s
taken_part a b s i h = (take i s, (drop i s, sym (take-append-drop i s)), h)

lacks_some : (s rest : List ℕ) (i : ℕ) → i < length s → drop i s ≡ rest → IsProperBeginning (take i s) s
lacks_some s [] i more is = absurd (let none : length (drop i s) ≡ 0 = ap length is in grind (arith, common_steps))
lacks_some s (byte ∷ rest) i more is = (byte, rest, sym (take-append-drop i s) ∙ ap (λ t. take i s ++ t) is)

-- the first pieces went out, and some is left
pub taken_proper_part : (a b : Option (List ℕ)) (s : List ℕ) (i : ℕ) → i < length s → Appends a b (take i s) → AppendsProperPart a b s
taken_proper_part a b s i more h = (take i s, lacks_some s (drop i s) i more refl, h)

-- a write that took nothing adds nothing
pub nothing_more : (a b : Option (List ℕ)) (s : List ℕ) (i n : ℕ) → n ≡ 0 → Appends a b (take (i + n) s) → Appends a b (take i s)
nothing_more a b s i n none h = let same : i + n ≡ i = omega (arith, none) in subst (λ k. Appends a b (take k s)) same h

pub on_err : {A E P : Type 0} (r : Result A E) → P → OnErr r P
on_err (Ok a) p = tt
on_err (Err e) p = p

-- a write that counts took something, and no failure
pub no_failure : (n size failures after : ℕ) → n ≢ 0 → after ≡ counted ((n == 0) && nat_lt 0 size) failures → after ≡ failures
no_failure n size failures after some h = rw (ne_eqb n 0 some) at h
