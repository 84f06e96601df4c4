-- What each worker did, one by one, is what all did.
use Rattle.std.proofs.Common.{◌≡◌, ◌<◌, ℕ, suc, List, [], ◌∷◌, length, Result, Ok, Err, arith}
use Rattle.std.specs.Prelude.{slice_index_or, IfOk}
use Rattle.service.specs.Asked.{RequestData, ResponseData}
use Rattle.http_pool.specs.declared.workers.Worker.{Worker}
use Rattle.http_pool.specs.Workers.{HasWorked, HaveWorked, HasEnded, HaveEnded, FailsByListener, FailByListener}

pub if_ok_both : {T E : Type 0} (r : Result T E) (P Q Z : T → Type 0) → ((x : T) → P x → Q x → Z x) → IfOk r P → IfOk r Q → IfOk r Z
if_ok_both (Ok x) P Q Z both p q = both x p q
if_ok_both (Err e) P Q Z both p q = tt

-- each worker that ended by itself had a limit
pub each_ended : {S C : Type 0} (connections : ℕ) (workers after : List (Worker S C)) → length after ≡ length workers → ((i : ℕ) (d : Worker S C) → i < length workers → HasEnded connections (slice_index_or after i d)) → HaveEnded connections after
each_ended connections [] [] same each = tt
each_ended connections [] (w ∷ after) same each = absurd (omega (arith, same))
each_ended connections (w ∷ workers) [] same each = absurd (omega (arith, same))
each_ended connections (w ∷ workers) (v ∷ after) same each = (each 0 w (omega arith), each_ended connections workers after (omega (arith, same)) (λ i d within. each (suc i) d (omega (arith, within))))

-- each failure lies in the listener
pub each_failed : {S C : Type 0} (workers after : List (Worker S C)) → length after ≡ length workers → ((i : ℕ) (d : Worker S C) → i < length workers → FailsByListener (slice_index_or after i d)) → FailByListener after
each_failed [] [] same each = tt
each_failed [] (w ∷ after) same each = absurd (omega (arith, same))
each_failed (w ∷ workers) [] same each = absurd (omega (arith, same))
each_failed (w ∷ workers) (v ∷ after) same each = (each 0 w (omega arith), each_failed workers after (omega (arith, same)) (λ i d within. each (suc i) d (omega (arith, within))))

module _ {S C : Type 0} (names_of : S → List (List ℕ)) (answers : S → ℕ → ℕ → RequestData → ResponseData → S → Type 0) (ticks : C → ℕ → C → Type 0) where
  pub each_worked : (workers after : List (Worker S C)) → length after ≡ length workers → ((i : ℕ) (d : Worker S C) → i < length workers → HasWorked names_of answers ticks (slice_index_or workers i d) (slice_index_or after i d)) → HaveWorked names_of answers ticks workers after
  each_worked [] [] same each = tt
  each_worked [] (w ∷ after) same each = absurd (omega (arith, same))
  each_worked (w ∷ workers) [] same each = absurd (omega (arith, same))
  each_worked (w ∷ workers) (v ∷ after) same each = (each 0 w (omega arith), each_worked workers after (omega (arith, same)) (λ i d within. each (suc i) d (omega (arith, within))))
