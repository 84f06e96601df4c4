-- A path whose segments name a route finds it.
use Rattle.std.proofs.Common.{◌≡◌, ℕ, zero, suc, ◌+◌, ◌-◌, ◌<◌, List, [], ◌∷◌, ◌++◌, length, drop, Bool, true, false, cond, ◌&&◌, ltb, ◌==◌, Option, Some, None, refl, ap, ◌∙◌, arith, length-append}
use Rattle.std.proofs.lemmas.Bool.{lt-ltb}
use Rattle.std.proofs.lemmas.List.{drop_all}
use Rattle.std.specs.Prelude.{nat_eq}
use Rattle.std.specs.Cmp.Lexicographic.{pointwise}
use Rattle.matchit.specs.Rows.{RowsOf, param_token, catch_all_token}
use Rattle.matchit.specs.Seek.{segment, has_slash, cuts, own, step, or_else, longest_from, longest_suffix, with_suffix, param_step, seek}
use Rattle.http_routes.proofs.Readings.{and-both, byte-of}

module _ {K : Type 0} where
  param_step-empty : (path : List ℕ) → (param_step {K = K} [] path).1 ≡ []
  unfolding param_step
  param_step-empty path =
      elim (has_slash path) as (λ c. (cond {A = ℕ × RowsOf K} c (0, []) (length path, [])).1 ≡ []) [ true ↦ refl | false ↦ refl ]

  seek-empty : (path : List ℕ) (skip : ℕ) → seek {K = K} skip [] path ≡ None
  unfolding seek
  seek-empty [] zero = refl
  seek-empty [] (suc skip) = refl
  seek-empty (b ∷ path) (suc skip) = seek-empty path skip
  seek-empty (b ∷ path) zero =
      let n = (param_step {K = K} [] (b ∷ path)).0 - 1 in
      let second : seek n (param_step {K = K} [] (b ∷ path)).1 path ≡ None = ap (λ (rows : RowsOf K). seek n rows path) (param_step-empty (b ∷ path)) ∙ seek-empty path n in
      rw (seek-empty path 0, second) refl

  or_else-none : (a : Option K) → or_else a None ≡ a
  or_else-none None = refl
  or_else-none (Some k) = refl

  -- where no parameter may come next
  seek-byte : (b : ℕ) (path : List ℕ) (rows : RowsOf K) → step param_token rows ≡ [] → step catch_all_token rows ≡ [] → seek 0 rows (b ∷ path) ≡ seek 0 (step b rows) path
  unfolding seek
  seek-byte b path rows e f =
      let n = λ (r : RowsOf K). (param_step r (b ∷ path)).0 - 1 in
      let second : seek (n (step param_token rows)) (param_step (step param_token rows) (b ∷ path)).1 path ≡ None =
      ap (λ (r : RowsOf K). seek (n r) (param_step r (b ∷ path)).1 path) e
      ∙ ap (λ (r : RowsOf K). seek (n []) r path) (param_step-empty (b ∷ path))
      ∙ seek-empty path (n []) in
      ap (λ x. or_else (seek 0 (step b rows) path) (or_else x (own (step catch_all_token rows)))) second
      ∙ ap (λ (r : RowsOf K). or_else (seek 0 (step b rows) path) (or_else None (own r))) f
      ∙ or_else-none (seek 0 (step b rows) path)

  abbrev is_nil : RowsOf K → Bool
  is_nil [] = true
  is_nil (r ∷ rows) = false

  is_nil-nil : (rows : RowsOf K) → is_nil rows ≡ true → rows ≡ []
  is_nil-nil [] e = refl
  is_nil-nil (r ∷ rows) e = let never : false ≡ true = e in cc

  abbrev pub steps : List ℕ → RowsOf K → RowsOf K
  steps [] rows = rows
  steps (b ∷ w) rows = steps w (step b rows)

  -- along these bytes no parameter may come next
  abbrev pub is_literal : List ℕ → RowsOf K → Bool
  is_literal [] rows = true
  is_literal (b ∷ w) rows = is_nil (step param_token rows) && (is_nil (step catch_all_token rows) && is_literal w (step b rows))

  pub seek-bytes : (w path : List ℕ) (rows : RowsOf K) → is_literal w rows ≡ true → seek 0 rows (w ++ path) ≡ seek 0 (steps w rows) path
  seek-bytes [] path rows e = refl
  seek-bytes (b ∷ w) path rows e =
      let one = and-both (is_nil (step param_token rows)) _ e in
      let two = and-both (is_nil (step catch_all_token rows)) (is_literal w (step b rows)) one.1 in
      seek-byte b (w ++ path) rows (is_nil-nil _ one.0) (is_nil-nil _ two.0) ∙ seek-bytes w path (step b rows) two.1

  seek-skip : (path : List ℕ) (skip : ℕ) (rows : RowsOf K) → seek skip rows path ≡ seek 0 rows (drop skip path)
  unfolding seek
  seek-skip [] zero rows = refl
  seek-skip [] (suc skip) rows = refl
  seek-skip (b ∷ path) zero rows = refl
  seek-skip (b ∷ path) (suc skip) rows = seek-skip path skip rows

  abbrev pub behind_slash : RowsOf K → RowsOf K
  behind_slash [] = []
  behind_slash ((t, k) ∷ rows) = (47 ∷ t, k) ∷ behind_slash rows

  longest-kept : (text : List ℕ) (rows : RowsOf K) → longest_from text (47 ∷ []) (behind_slash rows) ≡ 47 ∷ []
  longest-kept text [] = refl
  longest-kept text ((t, k) ∷ rows) = longest-kept text rows

  longest-slash : (text t : List ℕ) (k : K) (rows : RowsOf K) → cuts text (47 ∷ []) ≡ true → longest_suffix text (behind_slash ((t, k) ∷ rows)) ≡ 47 ∷ []
  longest-slash text t k rows e =
      ap (λ c. longest_from text (cond c (47 ∷ []) []) (behind_slash rows)) e ∙ longest-kept text rows

  with_suffix-slash : (rows : RowsOf K) → with_suffix (47 ∷ []) (behind_slash rows) ≡ behind_slash rows
  with_suffix-slash [] = refl
  with_suffix-slash ((t, k) ∷ rows) = ap (λ r. (47 ∷ t, k) ∷ r) (with_suffix-slash rows)

-- ---- segments

segment-at : (s rest : List ℕ) → has_slash s ≡ false → segment (s ++ (47 ∷ rest)) ≡ s ++ (47 ∷ [])
segment-at [] rest whole = refl
segment-at (b ∷ s) rest whole =
    let both = byte-of (b == 47) (has_slash s) whole in
    rw (both.0, segment-at s rest both.1) refl

drop-front : (s t : List ℕ) → drop (length s) (s ++ t) ≡ t
drop-front [] t = refl
drop-front (b ∷ s) t = drop-front s t

cuts-slash : (s : List ℕ) → 0 < length s → cuts (s ++ (47 ∷ [])) (47 ∷ []) ≡ true
cuts-slash s some =
    let long : length (s ++ (47 ∷ [])) ≡ length s + 1 = length-append s (47 ∷ []) in
    let more : ltb 1 (length (s ++ (47 ∷ []))) ≡ true = lt-ltb 1 _ (omega arith) in
    let place : length (s ++ (47 ∷ [])) - 1 ≡ length s = omega arith in
    let last : drop (length (s ++ (47 ∷ [])) - 1) (s ++ (47 ∷ [])) ≡ 47 ∷ [] = ap (λ n. drop n (s ++ (47 ∷ []))) place ∙ drop-front s (47 ∷ []) in
    let f : Bool → List ℕ → Bool = λ c l. c && pointwise nat_eq (47 ∷ []) l in
    ap (λ c. f c (drop (length (s ++ (47 ∷ [])) - 1) (s ++ (47 ∷ [])))) more ∙ ap (λ l. f true l) last

module _ {K : Type 0} where
  step-other : (x : ℕ) (rows : RowsOf K) → (47 == x) ≡ false → step x (behind_slash rows) ≡ []
  step-other x [] e = refl
  step-other x ((t, k) ∷ rows) e = rw e (step-other x rows e)

  step-slash : (rows : RowsOf K) → step 47 (behind_slash rows) ≡ rows
  step-slash [] = refl
  step-slash ((t, k) ∷ rows) = ap (λ r. (t, k) ∷ r) (step-slash rows)

  param_step-slash : (b : ℕ) (s rest t : List ℕ) (k : K) (rows : RowsOf K) → has_slash (b ∷ s) ≡ false
      → param_step (behind_slash ((t, k) ∷ rows)) (b ∷ (s ++ (47 ∷ rest))) ≡ (suc (length s), behind_slash ((t, k) ∷ rows))
  unfolding param_step
  param_step-slash b s rest t k rows whole =
      let path : List ℕ = b ∷ (s ++ (47 ∷ rest)) in
      let held : RowsOf K = behind_slash ((t, k) ∷ rows) in
      let text = segment-at (b ∷ s) rest whole in
      let suffix = longest-slash (segment path) t k rows (ap (λ x. cuts x (47 ∷ [])) text ∙ cuts-slash (b ∷ s) (omega arith)) in
      let other : ℕ × RowsOf K = cond (has_slash path) (0, []) (length path, held) in
      let f : List ℕ → ℕ × RowsOf K = λ l. cond (ltb 0 (length l)) (length (segment path) - length l, with_suffix l held) other in
      let g : List ℕ → ℕ × RowsOf K = λ x. (length x - 1, with_suffix (47 ∷ []) held) in
      let h : ℕ → ℕ × RowsOf K = λ n. (n, with_suffix (47 ∷ []) held) in
      let j : RowsOf K → ℕ × RowsOf K = λ r. (suc (length s), r) in
      let long : length ((b ∷ s) ++ (47 ∷ [])) ≡ length (b ∷ s) + 1 = length-append (b ∷ s) (47 ∷ []) in
      let place : length ((b ∷ s) ++ (47 ∷ [])) - 1 ≡ suc (length s) = omega arith in
      ap f suffix ∙ ap g text ∙ ap h place ∙ ap j (with_suffix-slash ((t, k) ∷ rows))

  pub seek-param : (all : RowsOf K) (b : ℕ) (s rest t : List ℕ) (k : K) (rows : RowsOf K)
      → step b all ≡ [] → step param_token all ≡ behind_slash ((t, k) ∷ rows) → step catch_all_token all ≡ []
      → has_slash (b ∷ s) ≡ false
      → seek 0 all (b ∷ (s ++ (47 ∷ rest))) ≡ seek 0 ((t, k) ∷ rows) rest
  unfolding seek
  seek-param all b s rest t k rows no_byte params no_rest whole =
      let path : List ℕ = s ++ (47 ∷ rest) in
      let held : RowsOf K = behind_slash ((t, k) ∷ rows) in
      let first : seek 0 (step b all) path ≡ None = ap (λ (r : RowsOf K). seek 0 r path) no_byte ∙ seek-empty path 0 in
      let taken : ℕ × RowsOf K → Option K = λ p. seek (p.0 - 1) p.1 path in
      let one : suc (length s) - 1 ≡ length s = omega arith in
      let second : taken (param_step (step param_token all) (b ∷ path)) ≡ seek 0 ((t, k) ∷ rows) rest =
      ap (λ (r : RowsOf K). taken (param_step r (b ∷ path))) params
      ∙ ap taken (param_step-slash b s rest t k rows whole)
      ∙ ap (λ n. seek n held path) one
      ∙ seek-skip path (length s) held
      ∙ ap (λ p. seek 0 held p) (drop-front s (47 ∷ rest))
      ∙ seek-byte 47 rest held (step-other param_token ((t, k) ∷ rows) refl) (step-other catch_all_token ((t, k) ∷ rows) refl)
      ∙ ap (λ (r : RowsOf K). seek 0 r rest) (step-slash ((t, k) ∷ rows)) in
      let third : own (step catch_all_token all) ≡ None = ap (λ (r : RowsOf K). own r) no_rest in
      ap (λ x. or_else x (or_else (taken (param_step (step param_token all) (b ∷ path))) (own (step catch_all_token all)))) first
      ∙ ap (λ x. or_else x (own (step catch_all_token all))) second
      ∙ ap (λ x. or_else (seek 0 ((t, k) ∷ rows) rest) x) third
      ∙ or_else-none (seek 0 ((t, k) ∷ rows) rest)

  -- a parameter at the end takes what is left
  pub seek-last : (b : ℕ) (s : List ℕ) (k : K) (all : RowsOf K)
      → step b all ≡ [] → step param_token all ≡ ([], k) ∷ [] → step catch_all_token all ≡ []
      → has_slash (b ∷ s) ≡ false → seek 0 all (b ∷ s) ≡ Some k
  unfolding seek param_step
  seek-last b s k all no_byte params no_rest whole =
      let held : RowsOf K = ([], k) ∷ [] in
      let first : seek 0 (step b all) s ≡ None = ap (λ (r : RowsOf K). seek 0 r s) no_byte ∙ seek-empty s 0 in
      let taken : ℕ × RowsOf K → Option K = λ p. seek (p.0 - 1) p.1 s in
      let f : Bool → ℕ × RowsOf K = λ c. cond c (0, []) (suc (length s), held) in
      let one : suc (length s) - 1 ≡ length s = omega arith in
      let second : taken (param_step (step param_token all) (b ∷ s)) ≡ Some k =
      ap (λ (r : RowsOf K). taken (param_step r (b ∷ s))) params
      ∙ ap (λ c. taken (f c)) whole
      ∙ ap (λ n. seek n held s) one
      ∙ seek-skip s (length s) held
      ∙ ap (λ p. seek 0 held p) (drop_all (length s) s (omega arith)) in
      let third : own (step catch_all_token all) ≡ None = ap (λ (r : RowsOf K). own r) no_rest in
      ap (λ x. or_else x (or_else (taken (param_step (step param_token all) (b ∷ s))) (own (step catch_all_token all)))) first
      ∙ ap (λ x. or_else x (own (step catch_all_token all))) second
      ∙ ap (λ x. or_else (Some k) x) third
