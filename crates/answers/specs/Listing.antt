-- The list of services as JSON: the name of each, and how it stands.
use Rattle.std.specs.Prelude.{ℕ, List, [], ◌∷◌, codes}
use Rattle.serde_json.specs.Data.{Data, string, array}
use Rattle.serde_json.specs.View.{items_of}
use Rattle.serde_json.specs.Written.{compact_text}
use Rattle.service.specs.Asked.{ResponseData}
use Rattle.answers.specs.Responses.{response_json}
use Rattle.answers.specs.Texts.{object_of}

-- a service by its name, with the object that its answer to a reading is by itself
abbrev pub service_data : List ℕ → ResponseData → Data
service_data name given = object_of ((codes "name", string name) ∷ (codes "state", response_json given) ∷ [])

-- services by their names, in their order, each with its answer
abbrev pub service_list : List (List ℕ) → List ResponseData → List Data
service_list (name ∷ names) (given ∷ later) = service_data name given ∷ service_list names later
service_list [] later = []
service_list (name ∷ names) [] = []

abbrev pub services_data : List (List ℕ) → List ResponseData → Data
services_data names given = object_of ((codes "services", array (items_of (service_list names given))) ∷ [])

abbrev pub services_body : List (List ℕ) → List ResponseData → List ℕ
services_body names given = compact_text (services_data names given)
