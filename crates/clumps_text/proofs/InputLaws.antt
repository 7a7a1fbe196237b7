-- The frame read from a text and the text of a frame are one: reading the text of an accepted frame gives the frame (`parse_text`), and
-- a text from which a frame is read is its text, and the frame is accepted (`parse_back`).
-- Assumes nothing.
use mathlib.Core.Path.{◌≡◌, refl, sym, ap, ◌∙◌, subst}
use mathlib.Core.Logic.{◌⊎◌, inl, inr, ⊎_elim}
use mathlib.Core.Bool.{Bool, true, false, cond, ◌&&◌, ◌||◌}
use mathlib.Core.List.{List, [], ◌∷◌, ◌++◌, map, append_assoc}
use Prim.Native.Nat.{ℕ, zero, suc, ◌+◌, ◌*◌, ◌%◌, ◌≤◌, ◌<◌}
use native.Mathlib.Omega.{arith}
use borrow.Author.Tests.{eqb-true, eq-eqb, ne_eqb, leb-true, le-leb, ltb-true, ltb-false}
use lib.Dec.{eqb, leb, ltb}
use lib.ListN.{length, get_or}
use Rattle.clumps_text.specs.Text.{line, decimal, flag_character, width_name, lines_name, structure_name, cells_name}
use Rattle.clumps_text.specs.Input.{TextFrame, Accepted, text_before, text_of, Parsed, parsed, bad, and_then, parse_exactly, digits_value}
use Rattle.clumps_text.specs.Input.{parse_number, parse_flags, flags_given, last_lines, parse}
use Rattle.clumps_text.proofs.DecimalLaws.{decimal_small, decimal_two}

-- ---- one thing after another

module _ {A B : Type 0} where
  -- what was read first, where something was read at the end
  pub record Through (r : Parsed A) (k : A → List ℕ → Parsed B) (b : B) (t : List ℕ) : Type 0 where
    pub first : A
    pub after : List ℕ
    pub reads : r ≡ parsed first after
    pub goes_on : k first after ≡ parsed b t

  pub through : (r : Parsed A) (k : A → List ℕ → Parsed B) {b : B} {t : List ℕ} → and_then r k ≡ parsed b t → Through r k b t
  unfolding and_then
  through (parsed a s) k e = record { first = a; after = s; reads = refl; goes_on = e }
  through bad k e = absurd (let z : ◌≡◌ {A = ℕ} 0 1 = cc in omega arith)

module _ {A B : Type 0} {r : Parsed A} (k : A → List ℕ → Parsed B) where
  pub then_parsed : {a : A} {t : List ℕ} → r ≡ parsed a t → and_then r k ≡ k a t
  unfolding and_then
  then_parsed e = ap (λ (x : Parsed A). and_then x k) e

  pub then_bad : r ≡ bad → and_then r k ≡ bad
  unfolding and_then
  then_bad e = ap (λ (x : Parsed A). and_then x k) e

pub same_read : {A : Type 0} {a b : A} {s t : List ℕ} → parsed a s ≡ parsed b t → a ≡ b
same_read e = cc

pub same_rest : {A : Type 0} {a b : A} {s t : List ℕ} → parsed a s ≡ parsed b t → s ≡ t
same_rest e = cc

-- ---- bytes

pub parse_exactly_of : (xs t : List ℕ) → parse_exactly xs (xs ++ t) ≡ parsed tt t
unfolding parse_exactly
parse_exactly_of [] t = refl
parse_exactly_of (x ∷ xs) t = rw (eq-eqb x x refl) (parse_exactly_of xs t)

pub parse_exactly_back : (xs t : List ℕ) {u : Unit {0}} {r : List ℕ} → parse_exactly xs t ≡ parsed u r → t ≡ xs ++ r
unfolding parse_exactly
parse_exactly_back [] t e = cc
parse_exactly_back (x ∷ xs) [] e = absurd (let z : ◌≡◌ {A = ℕ} 0 1 = cc in omega arith)
parse_exactly_back (x ∷ xs) (y ∷ t) {u} {r} e = go (eqb x y) refl e (parse_exactly_back xs t)
  where
    go : (b : Bool) → eqb x y ≡ b → cond b (parse_exactly xs t) bad ≡ parsed u r → (parse_exactly xs t ≡ parsed u r → t ≡ xs ++ r)
        → y ∷ t ≡ x ∷ (xs ++ r)
    go true h e ih =
        let a = eqb-true x y h in
        let l = ih e in
        cc
    go false h e ih = absurd (let z : ◌≡◌ {A = ℕ} 0 1 = cc in omega arith)

-- ---- numbers

digits_value_of : (v : ℕ) (t : List ℕ) → v ≤ 48 → digits_value (decimal v ++ (10 ∷ t)) ≡ v
unfolding digits_value
digits_value_of v t h = go (ltb v 10) refl
  where
    go : (b : Bool) → ltb v 10 ≡ b → digits_value (decimal v ++ (10 ∷ t)) ≡ v
    go true e =
        let l : v < 10 = ltb-true v 10 e in
        rw (decimal_small v l) (omega arith)
    go false e =
        let l : 10 ≤ v = ltb-false v 10 e in
        let n : eqb (48 + v % 10) 10 ≡ false = ne_eqb (48 + v % 10) 10 (λ q. omega arith) in
        rw (decimal_two v l (omega arith), n) (omega arith)

pub parse_number_of : (v : ℕ) (t : List ℕ) → 1 ≤ v → v ≤ 48 → parse_number (decimal v ++ (10 ∷ t)) ≡ parsed v t
unfolding parse_number and_then
parse_number_of v t h l =
    let b : parse_exactly (decimal v ++ (10 ∷ [])) (decimal v ++ (10 ∷ t)) ≡ parsed tt t =
    subst (λ (s : List ℕ). parse_exactly (decimal v ++ (10 ∷ [])) s ≡ parsed tt t) (append_assoc (decimal v) (10 ∷ []) t)
    (parse_exactly_of (decimal v ++ (10 ∷ [])) t) in
    rw (digits_value_of v t l, le-leb 1 v h, le-leb v 48 l, b)

pub record IsNumber (v : ℕ) (t r : List ℕ) : Type 0 where
  pub some : 1 ≤ v
  pub most : v ≤ 48
  pub text : t ≡ decimal v ++ (10 ∷ r)

pub parse_number_back : (t : List ℕ) {v : ℕ} {r : List ℕ} → parse_number t ≡ parsed v r → IsNumber v t r
unfolding parse_number
parse_number_back t {v} {r} e = go (leb 1 (digits_value t)) (leb (digits_value t) 48) refl refl e
  where
    go : (a b : Bool) → leb 1 (digits_value t) ≡ a → leb (digits_value t) 48 ≡ b
        → cond (a && b) (and_then (parse_exactly (decimal (digits_value t) ++ (10 ∷ [])) t) λ _ r. parsed (digits_value t) r) bad ≡ parsed v r
        → IsNumber v t r
    go true true p q e =
        let h = through _ _ e in
        let w : digits_value t ≡ v = same_read h.goes_on in
        let s : h.after ≡ r = same_rest h.goes_on in
        let b : t ≡ (decimal (digits_value t) ++ (10 ∷ [])) ++ h.after = parse_exactly_back (decimal (digits_value t) ++ (10 ∷ [])) t
        h.reads in
        record {
          some = subst (λ (n : ℕ). 1 ≤ n) w (leb-true 1 (digits_value t) p);
          most = subst (λ (n : ℕ). n ≤ 48) w (leb-true (digits_value t) 48 q);
          text = subst (λ (n : ℕ). t ≡ decimal n ++ (10 ∷ r)) w
              (subst (λ (l : List ℕ). t ≡ decimal (digits_value t) ++ (10 ∷ l)) s
              (b ∙ append_assoc (decimal (digits_value t)) (10 ∷ []) h.after));
        }
    go true false p q e = absurd (let z : ◌≡◌ {A = ℕ} 0 1 = cc in omega arith)
    go false b p q e = absurd (let z : ◌≡◌ {A = ℕ} 0 1 = cc in omega arith)

-- ---- flags

pub parse_flags_of : (fs : List Bool) (t : List ℕ) → parse_flags (length fs) (map flag_character fs ++ t) ≡ parsed fs t
unfolding parse_flags flag_character and_then
parse_flags_of [] t = refl
parse_flags_of (true ∷ fs) t = rw (parse_flags_of fs t)
parse_flags_of (false ∷ fs) t = rw (parse_flags_of fs t)

pub record AreFlags (n : ℕ) (fs : List Bool) (t r : List ℕ) : Type 0 where
  pub many : length fs ≡ n
  pub text : t ≡ map flag_character fs ++ r

-- the byte of a flag, by the two tests
flag_character_lem : (b : ℕ) (p q : Bool) → eqb b 48 ≡ p → eqb b 49 ≡ q → p || q ≡ true → b ≡ flag_character q
unfolding flag_character
flag_character_lem b true true h k o = absurd (omega (arith, eqb-true b 48 h, eqb-true b 49 k))
flag_character_lem b true false h k o = eqb-true b 48 h
flag_character_lem b false true h k o = eqb-true b 49 k
flag_character_lem b false false h k o = absurd (let z : ◌≡◌ {A = ℕ} 0 1 = cc in omega arith)

pub parse_flags_back : (n : ℕ) (t : List ℕ) (fs : List Bool) (r : List ℕ) → parse_flags n t ≡ parsed fs r → AreFlags n fs t r
unfolding parse_flags
parse_flags_back zero t fs r e =
    let f : [] ≡ fs = cc in
    let s : t ≡ r = cc in
    subst (λ (gs : List Bool). AreFlags 0 gs t r) f (record { many = refl; text = s })
parse_flags_back (suc n) [] fs r e = absurd (let z : ◌≡◌ {A = ℕ} 0 1 = cc in omega arith)
parse_flags_back (suc n) (b ∷ t) fs r e = go (eqb b 48) (eqb b 49) refl refl e (parse_flags_back n t)
  where
    more : (q : Bool) → b ≡ flag_character q → and_then (parse_flags n t) (λ gs s. parsed (q ∷ gs) s) ≡ parsed fs r
        → ((gs : List Bool) (s : List ℕ) → parse_flags n t ≡ parsed gs s → AreFlags n gs t s) → AreFlags (suc n) fs (b ∷ t) r
    more q f e ih =
        let h = through _ _ e in
        let a = ih h.first h.after h.reads in
        let g : q ∷ h.first ≡ fs = same_read h.goes_on in
        let s : h.after ≡ r = same_rest h.goes_on in
        let x : t ≡ map flag_character h.first ++ r = subst (λ (l : List ℕ). t ≡ map flag_character h.first ++ l) s a.text in
        subst (λ (gs : List Bool). AreFlags (suc n) gs (b ∷ t) r) g (record { many = ap suc a.many; text = cc })

    go : (p q : Bool) → eqb b 48 ≡ p → eqb b 49 ≡ q → cond (p || q) (and_then (parse_flags n t) (λ gs s. parsed (q ∷ gs) s)) bad ≡ parsed fs r
        → ((gs : List Bool) (s : List ℕ) → parse_flags n t ≡ parsed gs s → AreFlags n gs t s) → AreFlags (suc n) fs (b ∷ t) r
    go true q h k e ih = more q (flag_character_lem b true q h k refl) e ih
    go false true h k e ih = more true (flag_character_lem b false true h k refl) e ih
    go false false h k e ih = absurd (let z : ◌≡◌ {A = ℕ} 0 1 = cc in omega arith)

-- ---- the structure's line

flags_given_none : (t : List ℕ) → flags_given (10 ∷ t) ≡ 0
unfolding flags_given
flags_given_none t = refl

flags_given_nine : (b : Bool) (t : List ℕ) → flags_given (flag_character b ∷ t) ≡ 9
unfolding flags_given flag_character
flags_given_nine true t = refl
flags_given_nine false t = refl

flags_given_of : (s : List Bool) (t : List ℕ) → (length s ≡ 0) ⊎ (length s ≡ 9) → flags_given (map flag_character s ++ (10 ∷ t)) ≡ length s
flags_given_of [] t h = flags_given_none t
flags_given_of (b ∷ s) t (inl e) = absurd (omega arith)
flags_given_of (b ∷ s) t (inr e) = flags_given_nine b (map flag_character s ++ (10 ∷ t)) ∙ sym e

pub flags_given_cases : (t : List ℕ) → (flags_given t ≡ 0) ⊎ (flags_given t ≡ 9)
unfolding flags_given
flags_given_cases t = go (eqb (get_or t 0 0) 10)
  where
    go : (b : Bool) → (◌≡◌ {A = ℕ} (cond b 0 9) 0) ⊎ (◌≡◌ {A = ℕ} (cond b 0 9) 9)
    go true = inl refl
    go false = inr refl

-- ---- the four lines

pub parse_before : (f : TextFrame) (rest : List ℕ) → Accepted f → parse (text_before f rest) ≡ parsed f rest
unfolding parse last_lines text_before and_then
parse_before f rest a =
    let w = f.width in
    let l = f.lines in
    let s = map flag_character f.structure in
    let c = map flag_character f.cells in
    let t₈ : List ℕ = 10 ∷ rest in
    let t₆ : List ℕ = line [] s (cells_name ++ (c ++ t₈)) in
    let t₄ : List ℕ = structure_name ++ t₆ in
    let t₂ : List ℕ = line lines_name (decimal l) t₄ in
    let e₅ : parse_flags (flags_given t₆) t₆ ≡ parsed f.structure (10 ∷ (cells_name ++ (c ++ t₈))) =
    rw (flags_given_of f.structure (cells_name ++ (c ++ t₈)) a.nine_or_none)
    (parse_flags_of f.structure (10 ∷ (cells_name ++ (c ++ t₈)))) in
    let e₇ : parse_flags (l * w) (c ++ t₈) ≡ parsed f.cells t₈ = subst (λ (n : ℕ). parse_flags n (c ++ t₈) ≡ parsed f.cells t₈)
    a.all_cells (parse_flags_of f.cells t₈) in
    rw (
      parse_exactly_of width_name (decimal w ++ (10 ∷ t₂)),
      parse_number_of w t₂ a.some_width a.most_width,
      parse_exactly_of lines_name (decimal l ++ (10 ∷ t₄)),
      parse_number_of l t₄ a.some_lines a.most_lines,
      parse_exactly_of structure_name t₆,
      e₅,
      parse_exactly_of (10 ∷ cells_name) (c ++ t₈),
      e₇,
      parse_exactly_of (10 ∷ []) rest,
    )

pub parse_text : (f : TextFrame) → Accepted f → parse (text_of f) ≡ parsed f []
unfolding text_of
parse_text f a = parse_before f [] a

pub record IsText (f : TextFrame) (t rest : List ℕ) : Type 0 where
  pub accepted : Accepted f
  pub text : t ≡ text_before f rest

pub parse_back : (text : List ℕ) (f : TextFrame) (rest : List ℕ) → parse text ≡ parsed f rest → IsText f text rest
unfolding parse last_lines text_before
parse_back text f rest e =
    let h₁ = through _ _ e in
    let h₂ = through _ _ h₁.goes_on in
    let h₃ = through _ _ h₂.goes_on in
    let h₄ = through _ _ h₃.goes_on in
    let h₅ = through _ _ h₄.goes_on in
    let h₆ = through _ _ h₅.goes_on in
    let h₇ = through _ _ h₆.goes_on in
    let h₈ = through _ _ h₇.goes_on in
    let h₉ = through _ _ h₈.goes_on in
    let b₁ = parse_exactly_back width_name text h₁.reads in
    let n₂ = parse_number_back h₁.after h₂.reads in
    let b₃ = parse_exactly_back lines_name h₂.after h₃.reads in
    let n₄ = parse_number_back h₃.after h₄.reads in
    let b₅ = parse_exactly_back structure_name h₄.after h₅.reads in
    let f₆ = parse_flags_back (flags_given h₅.after) h₅.after h₆.first h₆.after h₆.reads in
    let b₇ = parse_exactly_back (10 ∷ cells_name) h₆.after h₇.reads in
    let f₈ = parse_flags_back (h₄.first * h₂.first) h₇.after h₈.first h₈.after h₈.reads in
    let b₉ = parse_exactly_back (10 ∷ []) h₈.after h₉.reads in
    let g : TextFrame = record { width = h₂.first; lines = h₄.first; structure = h₆.first; cells = h₈.first } in
    let a : Accepted g =
    record {
      some_width = n₂.some;
      most_width = n₂.most;
      some_lines = n₄.some;
      most_lines = n₄.most;
      nine_or_none = ⊎_elim (λ x. inl (f₆.many ∙ x)) (λ x. inr (f₆.many ∙ x)) (flags_given_cases h₅.after);
      all_cells = f₈.many;
    } in
    let t₇ : h₆.after ≡ 10 ∷ line cells_name (map flag_character h₈.first) h₉.after = b₇
    ∙ ap (λ (l : List ℕ). 10 ∷ (cells_name ++ l)) (f₈.text ∙ ap (λ (l : List ℕ). map flag_character h₈.first ++ l) b₉) in
    let t₅ : h₄.after
    ≡ structure_name ++ (map flag_character h₆.first ++ (10 ∷ line cells_name (map flag_character h₈.first) h₉.after)) =
    b₅ ∙ ap (λ (l : List ℕ). structure_name ++ l) (f₆.text ∙ ap (λ (l : List ℕ). map flag_character h₆.first ++ l) t₇) in
    let t₃ : h₂.after
    ≡ line lines_name (decimal h₄.first) (line structure_name (map flag_character h₆.first)
    (line cells_name (map flag_character h₈.first) h₉.after)) =
    b₃ ∙ ap (λ (l : List ℕ). lines_name ++ l) (n₄.text ∙ ap (λ (l : List ℕ). decimal h₄.first ++ (10 ∷ l)) t₅) in
    let t : text ≡ text_before g h₉.after = b₁
    ∙ ap (λ (l : List ℕ). width_name ++ l) (n₂.text ∙ ap (λ (l : List ℕ). decimal h₂.first ++ (10 ∷ l)) t₃) in
    let q : g ≡ f = same_read h₉.goes_on in
    let r : h₉.after ≡ rest = same_rest h₉.goes_on in
    subst (λ (x : TextFrame). IsText x text rest) q (subst (λ (l : List ℕ). IsText g text l) r (record { accepted = a; text = t }))
