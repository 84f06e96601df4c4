-- Services that open one after another.
use Rattle.std.proofs.Common.{◌≡◌, ◌<◌, ℕ, zero, suc, ◌+◌, List, [], ◌∷◌, ◌++◌, length, take, get_or, ap, refl, sym, subst, arith}
use Rattle.service_file.specs.declared.logging.Logging.{Logging}
use Rattle.service_file.specs.declared.settings.ServiceSettings.{ServiceSettings}
use Rattle.http_front.specs.declared.books.NamedBook.{NamedBook}
use Rattle.sidecar_server.specs.Opened.{IsOpened, AreOpened, logged_by, upkeeps_from}

pub one_more : {A : Type 0} (xs : List A) (x : A) (ys : List A) → xs ++ (x ∷ ys) ≡ (xs ++ x ∷ []) ++ ys
one_more [] x ys = refl
one_more (z ∷ xs) x ys = ap (λ later. z ∷ later) (one_more xs x ys)

module _ (first : ℕ) where
  pub opened_more : (services : List ServiceSettings) (named : List NamedBook) (service : ServiceSettings) (book : NamedBook) → AreOpened first services named → IsOpened first service book → AreOpened first (services ++ service ∷ []) (named ++ book ∷ [])
  opened_more [] [] service book are is = (is, tt)
  opened_more [] (b ∷ named) service book are is = absurd are
  opened_more (s ∷ services) [] service book are is = absurd are
  opened_more (s ∷ services) (b ∷ named) service book are is = (are.0, opened_more services named service book are.1 is)

  pub opened_as : (services : List ServiceSettings) (named more : List NamedBook) → more ≡ named → AreOpened first services named → AreOpened first services more
  opened_as services named more same are = subst (λ n. AreOpened first services n) (sym same) are

-- ---- what services do for their upkeep

-- one service more, by the next number
pub upkeeps_more : (logging : Logging) (from n number : ℕ) (services : List ServiceSettings) (service : ServiceSettings) → number ≡ from + n → n < length services → service ≡ get_or services n service
    → upkeeps_from logging from (take (suc n) services) ≡ upkeeps_from logging from (take n services) ++ logged_by logging number service.upkeep ∷ []
upkeeps_more logging from n number [] service counted within is = absurd (omega (arith, within))
upkeeps_more logging from zero number (s ∷ services) service counted within is =
    let first : from ≡ number = omega (arith, counted) in
    λ i. logged_by logging (first i) (sym is i).upkeep ∷ []
upkeeps_more logging from (suc n) number (s ∷ services) service counted within is =
    ap (λ later. logged_by logging from s.upkeep ∷ later) (upkeeps_more logging (suc from) n number services service (omega (arith, counted)) (omega (arith, within)) is)
