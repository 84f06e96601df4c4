-- The phrase of a status code.
use Rattle.std.proofs.Common.{◌≡◌, ℕ, Bool, true, ◌&&◌, cond, List, [], Option, Some, None, Bor, refl, ap, sym, ◌∙◌}
use Rattle.std.specs.Prelude.{option_map, unwrap_or}
use Rattle.std.specs.Prelude.{nat_le, nat_lt}
use Rattle.std.proofs.lemmas.Bool.{le-leb, lt-ltb}
use Rattle.http.specs.StatusCode.{IsStatusCode, reason_phrase}
use Rattle.http_front.specs.Messages.{phrase_of}

both : {A : Type 0} (a b : Bool) (x y : A) → a ≡ true → b ≡ true → cond (a && b) x y ≡ x
both a b x y e f = rw (e, f) refl

pub phrase_of-code : (status : ℕ) → IsStatusCode status → phrase_of status ≡ unwrap_or (reason_phrase status) []
unfolding phrase_of
phrase_of-code status within =
    both (nat_le 100 status) (nat_lt status 1000) (unwrap_or (reason_phrase status) []) [] (le-leb 100 status within.0) (lt-ltb status 1000 within.1)

now-unwrap_or : (found : Option (Bor (List ℕ))) (other : Bor (List ℕ)) → (unwrap_or found other).now ≡ unwrap_or (option_map (λ (text : Bor (List ℕ)). text.now) found) other.now
now-unwrap_or None other = refl
now-unwrap_or (Some text) other = refl

pub phrase_of-found : (status code : ℕ) (found : Option (Bor (List ℕ))) (other : Bor (List ℕ)) → IsStatusCode status → code ≡ status → option_map (λ (text : Bor (List ℕ)). text.now) found ≡ reason_phrase code → other.now ≡ [] → (unwrap_or found other).now ≡ phrase_of status
phrase_of-found status code found other within same is empty =
    now-unwrap_or found other ∙ ap (λ o. unwrap_or o other.now) is ∙ ap (λ d. unwrap_or (reason_phrase code) d) empty ∙ ap (λ n. unwrap_or (reason_phrase n) []) same ∙ sym (phrase_of-code status within)
