-- What the search of `matchit` finds is a row whose pattern the path fits.
use Rattle.std.proofs.Common.{◌≡◌, ℕ, zero, suc, ◌-◌, ◌<◌, ◌≤◌, List, [], ◌∷◌, ◌++◌, length, take, drop, Bool, true, false, cond, ◌&&◌, ltb, ◌==◌, Option, Some, None, ◌⊎◌, inl, inr, refl, ap, sym, subst, ◌∙◌, arith}
use Rattle.std.proofs.lemmas.Bool.{ltb-true}
use Rattle.std.proofs.lemmas.Bool.Decides.{nat_tests}
use Rattle.std.proofs.lemmas.List.{take_all, take-append-drop}
use Rattle.matchit.specs.Rows.{RowsOf, param_token, catch_all_token}
use Rattle.matchit.specs.Seek.{segment, has_slash, same_text, cuts, better, own, step, or_else, longest_from, longest_suffix, with_suffix, param_step, seek, first}
use Rattle.http_routes.specs.Patterns.{IsSegment, IsBytes}

-- ---- rows

module _ {K : Type 0} where
  abbrev pub HasRow : List ℕ → K → RowsOf K → Type 0
  HasRow t k [] = ⊥
  HasRow t k ((u, l) ∷ rows) = ((u ≡ t) × (l ≡ k)) ⊎ HasRow t k rows

  own-row : (rows : RowsOf K) (k : K) → own rows ≡ Some k → HasRow [] k rows
  own-row [] k e = cc
  own-row (([], l) ∷ rows) k e = let same : l ≡ k = cc in inl (refl, same)
  own-row ((x ∷ u, l) ∷ rows) k e = inr (own-row rows k e)

  step-row : (b : ℕ) (rows : RowsOf K) (t : List ℕ) (k : K) → HasRow t k (step b rows) → HasRow (b ∷ t) k rows
  step-row b [] t k h = h
  step-row b (([], l) ∷ rows) t k h = inr (step-row b rows t k h)
  step-row b ((x ∷ u, l) ∷ rows) t k h =
      elim (x == b) as (λ c. (x == b) ≡ c → HasRow t k (cond c ((u, l) ∷ step b rows) (step b rows)) → ((x ∷ u ≡ b ∷ t) × (l ≡ k)) ⊎ HasRow (b ∷ t) k rows) [
        | true ↦ λ e g. elim g [
          | inl p ↦ let head : x ≡ b = grind (arith, nat_tests) in let tail = p.0 in inl (cc, p.1)
          | inr q ↦ inr (step-row b rows t k q)
        ]
        | false ↦ λ e g. inr (step-row b rows t k g)
      ] refl h

  suffix-row : (s : List ℕ) (rows : RowsOf K) (t : List ℕ) (k : K) → HasRow t k (with_suffix s rows) → HasRow t k rows
  suffix-row s [] t k h = h
  suffix-row s ((u, l) ∷ rows) t k h =
      elim (same_text (segment u) s) as (λ c. HasRow t k (cond c ((u, l) ∷ with_suffix s rows) (with_suffix s rows)) → ((u ≡ t) × (l ≡ k)) ⊎ HasRow t k rows) [
        | true ↦ λ g. elim g [
          | inl p ↦ inl p
          | inr q ↦ inr (suffix-row s rows t k q)
        ]
        | false ↦ λ g. inr (suffix-row s rows t k g)
      ] h

  either : (a b : Option K) (k : K) → or_else a b ≡ Some k → (a ≡ Some k) ⊎ (b ≡ Some k)
  either None b k e = inr e
  either (Some l) b k e = inl e

-- ---- segments

-- what is shorter than the first segment has no slash
front-whole : (path : List ℕ) (n : ℕ) → n < length (segment path) → has_slash (take n path) ≡ false
front-whole path zero h = refl
front-whole [] (suc n) h = refl
front-whole (b ∷ path) (suc n) h =
    elim (b == 47) as (λ c. suc n < length (cond c (b ∷ []) (b ∷ segment path)) → cond c true (has_slash (take n path)) ≡ false) [
      | true ↦ λ g. absurd (omega arith)
      | false ↦ λ g. front-whole path n (omega arith)
    ] h

segment-short : (path : List ℕ) → length (segment path) ≤ length path
segment-short [] = omega arith
segment-short (b ∷ path) =
    elim (b == 47) as (λ c. length (cond c (b ∷ []) (b ∷ segment path)) ≤ suc (length path)) [
      | true ↦ omega arith
      | false ↦ let rest = segment-short path in omega arith
    ]

-- the longest suffix that is not empty ends the segment behind at least one byte
abbrev IsCut : List ℕ → List ℕ → Type 0
IsCut text suffix = 0 < length suffix → length suffix < length text

and-left : (a b : Bool) → a && b ≡ true → a ≡ true
and-left true b e = refl
and-left false b e = e

and-right : (a b : Bool) → a && b ≡ true → b ≡ true
and-right true b e = e
and-right false b e = cc

better-cut : (text best suffix : List ℕ) → IsCut text best → IsCut text (better text best suffix)
better-cut text best suffix h =
    elim (ltb (length best) (length suffix) && cuts text suffix) as (λ c. (ltb (length best) (length suffix) && cuts text suffix) ≡ c → IsCut text (cond c suffix best)) [
      | true ↦ λ e _. let cut = and-left _ _ (and-right _ _ e) in ltb-true _ _ cut
      | false ↦ λ e. h
    ] refl

-- ---- patterns

abbrev FitsToken : Bool → Bool → ℕ → (List ℕ → Type 0) → List ℕ → Type 0
FitsToken true c x next path = (s : List ℕ) × (rest : List ℕ) × (path ≡ s ++ rest) × IsSegment s × next rest
FitsToken false true x next path = Unit {0}
FitsToken false false x next path = (rest : List ℕ) × (path ≡ x ∷ rest) × next rest

-- a byte stands for itself, a parameter for one segment, and a catch-all for anything
abbrev pub Fits : List ℕ → List ℕ → Type 0
Fits [] path = path ≡ []
Fits (x ∷ t) path = FitsToken (x == param_token) (x == catch_all_token) x (Fits t) path

cut-at : (b : ℕ) (path : List ℕ) (m : ℕ) → m ≤ length path → has_slash (take (suc m) (b ∷ path)) ≡ false → (P : List ℕ → Type 0) → P (drop m path) → (s : List ℕ) × (rest : List ℕ) × (b ∷ path ≡ s ++ rest) × IsSegment s × P rest
cut-at b path m short whole P p =
    let first : 0 < length (take (suc m) (b ∷ path)) = omega arith in
    (take (suc m) (b ∷ path), drop m path, ap (λ l. b ∷ l) (sym (take-append-drop m path)), record { nonempty = first; whole = whole }, p)

module _ {K : Type 0} where
  longest-cut : (text best : List ℕ) (rows : RowsOf K) → IsCut text best → IsCut text (longest_from text best rows)
  longest-cut text best [] h = h
  longest-cut text best ((t, k) ∷ rows) h = longest-cut text (better text best (segment t)) rows (better-cut text best (segment t) h)

  abbrev Takes : RowsOf K → ℕ → List ℕ → List ℕ → K → Type 0
  Takes rows b path t k = HasRow t k rows × ((s : List ℕ) × (rest : List ℕ) × (b ∷ path ≡ s ++ rest) × IsSegment s × Fits t rest)

  by-slash : (rows : RowsOf K) (b : ℕ) (path t : List ℕ) (k : K) (c : Bool) → has_slash (b ∷ path) ≡ c
      → HasRow t k (cond {A = ℕ × RowsOf K} c (0, []) (length (b ∷ path), rows)).1
      → Fits t (drop ((cond {A = ℕ × RowsOf K} c (0, []) (length (b ∷ path), rows)).0 - 1) path)
      → Takes rows b path t k
  by-slash rows b path t k true e row fits = absurd row
  by-slash rows b path t k false e row fits =
      let all : take (suc (length path)) (b ∷ path) ≡ b ∷ path = take_all (suc (length path)) (b ∷ path) (omega arith) in
      let whole : has_slash (take (suc (length path)) (b ∷ path)) ≡ false = ap has_slash all ∙ e in
      let one : suc (length path) - 1 ≡ length path = omega arith in
      let P : ℕ → Type 0 = λ j. Fits t (drop j path) in
      (row, cut-at b path (length path) (omega arith) whole (Fits t) (subst P one fits))

  by-suffix : (rows : RowsOf K) (b : ℕ) (path t suffix : List ℕ) (k : K) → 0 < length suffix → length suffix < length (segment (b ∷ path))
      → HasRow t k (with_suffix suffix rows)
      → Fits t (drop (length (segment (b ∷ path)) - length suffix - 1) path)
      → Takes rows b path t k
  by-suffix rows b path t suffix k some cut row fits =
      let m = length (segment (b ∷ path)) - length suffix - 1 in
      let short = segment-short (b ∷ path) in
      let before : suc m < length (segment (b ∷ path)) = omega arith in
      (suffix-row suffix rows t k row, cut-at b path m (omega arith) (front-whole (b ∷ path) (suc m) before) (Fits t) fits)

  param-row : (rows : RowsOf K) (b : ℕ) (path t : List ℕ) (k : K) → HasRow t k (param_step rows (b ∷ path)).1
      → Fits t (drop ((param_step rows (b ∷ path)).0 - 1) path)
      → Takes rows b path t k
  unfolding param_step
  param-row rows b path t k row fits =
      let text : List ℕ = segment (b ∷ path) in
      let suffix : List ℕ = longest_suffix text rows in
      let other : ℕ × RowsOf K = cond (has_slash (b ∷ path)) (0, []) (length (b ∷ path), rows) in
      let cut : IsCut text suffix = longest-cut text [] rows (λ (some : 0 < 0). absurd (omega arith)) in
      elim (ltb 0 (length suffix)) as (λ c. ltb 0 (length suffix) ≡ c
      → HasRow t k (cond c (length text - length suffix, with_suffix suffix rows) other).1
      → Fits t (drop ((cond c (length text - length suffix, with_suffix suffix rows) other).0 - 1) path)
      → Takes rows b path t k) [
        | true ↦ λ e r f. let some = ltb-true 0 (length suffix) e in by-suffix rows b path t suffix k some (cut some) r f
        | false ↦ λ e r f. by-slash rows b path t k (has_slash (b ∷ path)) refl r f
      ] refl row fits

  abbrev Reads : RowsOf K → List ℕ → K → Type 0
  Reads rows path k = (t : List ℕ) × HasRow t k rows × Fits t path

  by-byte : (rows : RowsOf K) (b : ℕ) (path : List ℕ) (k : K) → b < 256 → Reads (step b rows) path k → Reads rows (b ∷ path) k
  by-byte rows b path k small (t, row, fits) =
      let plain : (b == 256) ≡ false = grind (arith, nat_tests) in
      let plain_too : (b == 257) ≡ false = grind (arith, nat_tests) in
      (b ∷ t, step-row b rows t k row, rw (plain, plain_too) (path, refl, fits))

  by-param : (rows : RowsOf K) (b : ℕ) (path t : List ℕ) (k : K) → Takes (step param_token rows) b path t k → Reads rows (b ∷ path) k
  by-param rows b path t k (row, taken) = (param_token ∷ t, step-row param_token rows t k row, taken)

  by-rest : (rows : RowsOf K) (b : ℕ) (path : List ℕ) (k : K) → own (step catch_all_token rows) ≡ Some k → Reads rows (b ∷ path) k
  by-rest rows b path k e = (catch_all_token ∷ [], step-row catch_all_token rows [] k (own-row (step catch_all_token rows) k e), tt)

  seek-reads : (path : List ℕ) (skip : ℕ) (rows : RowsOf K) (k : K) → IsBytes path → seek skip rows path ≡ Some k → Reads rows (drop skip path) k
  unfolding seek
  seek-reads [] zero rows k bytes e = ([], own-row rows k e, refl)
  seek-reads [] (suc skip) rows k bytes e = ([], own-row rows k e, refl)
  seek-reads (b ∷ path) (suc skip) rows k bytes e = seek-reads path skip rows k bytes.1 e
  seek-reads (b ∷ path) zero rows k bytes e =
      elim (either _ _ k e) [
        | inl f ↦ by-byte rows b path k bytes.0 (seek-reads path 0 (step b rows) k bytes.1 f)
        | inr f ↦ elim (either _ _ k f) [
          | inl g ↦
              let read = seek-reads path ((param_step (step param_token rows) (b ∷ path)).0 - 1) (param_step (step param_token rows) (b ∷ path)).1 k bytes.1 g in
              by-param rows b path read.0 k (param-row (step param_token rows) b path read.0 k read.1 read.2)
          | inr g ↦ by-rest rows b path k g
        ]
      ]

  pub first-reads : (path : List ℕ) (rows : RowsOf K) (k : K) → IsBytes path → first rows path ≡ Some k → Reads rows path k
  first-reads path rows k bytes e = seek-reads path 0 rows k bytes e
