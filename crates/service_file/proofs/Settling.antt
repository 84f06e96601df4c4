-- Services that are settled one after another.
use Rattle.std.proofs.Common.{◌≡◌, inl, inr, List, [], ◌∷◌, ◌++◌, ap, refl, map}
use Rattle.service_file.specs.declared.services.ServicePart.{ServicePart}
use Rattle.service_file.specs.declared.settings.ServiceSettings.{ServiceSettings}
use Rattle.service_file.specs.Parts.{service_data}
use Rattle.service_file.specs.Settled.{IsService, AreServices, HasRefusal}

pub one_more : {A : Type 0} (xs : List A) (x : A) (ys : List A) → xs ++ (x ∷ ys) ≡ (xs ++ x ∷ []) ++ ys
one_more [] x ys = refl
one_more (z ∷ xs) x ys = ap (λ later. z ∷ later) (one_more xs x ys)

pub settled_more : (services : List ServiceSettings) (parts : List ServicePart) (service : ServiceSettings) (part : ServicePart) → AreServices services (map service_data parts) → IsService service (service_data part) → AreServices (services ++ service ∷ []) (map service_data (parts ++ part ∷ []))
settled_more [] [] service part are is = (is, tt)
settled_more [] (p ∷ parts) service part are is = absurd are
settled_more (s ∷ services) [] service part are is = absurd are
settled_more (s ∷ services) (p ∷ parts) service part are is = (are.0, settled_more services parts service part are.1 is)

pub refused_among : (done : List ServicePart) (part : ServicePart) (later : List ServicePart) → HasRefusal (service_data part ∷ []) → HasRefusal (map service_data (done ++ (part ∷ later)))
refused_among [] part later (inl refused) = inl refused
refused_among [] part later (inr nothing) = absurd nothing
refused_among (d ∷ done) part later refused = inr (refused_among done part later refused)
