-- An answer that is lost.
use Rattle.std.proofs.Common.{◌≡◌, ℕ, List, None, Result, Ok, Err, refl, length}
use Rattle.std.specs.Prelude.{OnErr}
use Rattle.service.specs.Asked.{RequestData, ResponseData}
use Rattle.http_connection.specs.Requests.{HttpRequestData}
use Rattle.http_front.specs.Asked.{asked, asks, lists}
use Rattle.http_front.specs.Answered.{AreRead, IsAnswered, text_for, list_text}

pub on_err : {X E : Type 0} (r : Result X E) (P : Type 0) → P → OnErr r P
on_err (Ok x) P p = tt
on_err (Err e) P p = p

module _ {S : Type 0} (names_of : S → List (List ℕ)) (answers : S → ℕ → ℕ → RequestData → ResponseData → S → Type 0) where
  -- what was asked has an answer, whether it is written or not
  pub has_answer : (state : S) (moment : ℕ) (request : HttpRequestData) (place : ℕ) (wanted : RequestData) (response : ResponseData) (after : S)
      → asked (names_of state) request ≡ asks place wanted → answers state place moment wanted response after
      → (text : List ℕ) × IsAnswered names_of answers state moment request text after
  has_answer state moment request place wanted response after is answered = (text_for request response None, rw is (response, answered, refl))

  -- where all services were read, so has the list
  pub has_list : (state : S) (moment : ℕ) (request : HttpRequestData) (given : List ResponseData) (after : S)
      → asked (names_of state) request ≡ lists → length given ≡ length (names_of state) → AreRead answers state 0 moment given after
      → (text : List ℕ) × IsAnswered names_of answers state moment request text after
  has_list state moment request given after is all read = (list_text request (names_of state) given, rw is (given, all, read, refl))
