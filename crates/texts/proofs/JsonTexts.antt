-- What reading JSON from bytes gives.
use Rattle.std.proofs.Common.{◌≡◌, ℕ, List, true, false, cond, Some, None, refl, ap, ◌∙◌}
use Rattle.std.specs.Str.{IsUtf8, is_utf8}
use Rattle.std.proofs.lemmas.Str.{is_utf8-from_IsUtf8, IsUtf8-from_is_utf8}
use Rattle.serde_json.specs.Data.{Data}
use Rattle.serde_json.specs.Read.{read}
use Rattle.texts.specs.JsonText.{json_of}

pub json_of-some : (bs : List ℕ) (d : Data) → IsUtf8 bs → read bs ≡ Some d → json_of bs ≡ Some d
unfolding json_of
json_of-some bs d u r = rw (is_utf8-from_IsUtf8 bs u) r

pub json_of-none : (bs : List ℕ) → (IsUtf8 bs → read bs ≡ None) → json_of bs ≡ None
unfolding json_of
json_of-none bs h =
    elim (is_utf8 bs) as (λ b. is_utf8 bs ≡ b → cond b (read bs) None ≡ None) [ true ↦ λ e. h (IsUtf8-from_is_utf8 bs e) | false ↦ λ e. refl ] refl

pub json_of-utf8 : (text bs : List ℕ) → text ≡ bs → IsUtf8 bs → read text ≡ json_of bs
unfolding json_of
json_of-utf8 text bs same u = ap read same ∙ rw (is_utf8-from_IsUtf8 bs u)
