-- Reading from the front of a text: bytes that must stand there, numbers, flags.
-- Assumes nothing.
use mathlib.Core.Path.{◌≡◌, refl, sym, ap, ◌∙◌, subst}
use mathlib.Core.Logic.{◌⊎◌, inl, inr}
use mathlib.Core.Bool.{Bool, true, false, cond, ◌||◌}
use mathlib.Core.List.{List, [], ◌∷◌, ◌++◌, map, append_assoc, append-nil}
use Prim.Native.Nat.{ℕ, zero, suc, ◌+◌, ◌-◌, ◌*◌, ◌≤◌, ◌<◌}
use native.Mathlib.Omega.{arith}
use native.Mathlib.Numerals.{add-one}
use borrow.Author.Tests.{eq-eqb, ne_eqb, le-leb, lt-leb}
use lib.Dec.{eqb}
use lib.ListN.{length, get_or, take, drop, set}
use lib.Seq.{drop-cons, take_all, take-suc-set, get_or-take}
use Rattle.std.specs.Prelude.{Option, Some, None, MatchOption}
use Rattle.std.specs.Borrow.{Bor}
use Rattle.clumps_text.specs.Text.{decimal}
use Rattle.clumps_text.specs.Input.{Parsed, parsed, bad, and_then, parse_exactly, digits_value, parse_number, parse_flags, flags_given}
use Rattle.clumps_text.specs.Output.{as_byte, structure_bytes}
use Rattle.clumps_text.specs.Steps.{Leaves, parse_as_bytes, parse_structure}
use Rattle.clumps_text.proofs.InputLaws.{then_parsed, then_bad, parse_exactly_of, parse_exactly_back, parse_flags_back}
use Rattle.clumps_text.proofs.StructureLaws.{nine_bytes}

-- ---- bytes

-- what is stripped is what must stand there
pub stripped : (name text : List ℕ) (answer : Option (Bor (List ℕ)))
    → MatchOption answer ((rest : List ℕ) → text ≡ name ++ rest → ⊥) (λ rest. text ≡ name ++ rest.now)
    → Leaves (parse_exactly name text) tt answer
stripped name text None h = go (parse_exactly name text) refl
  where
    go : (r : Parsed (Unit {0})) → parse_exactly name text ≡ r → parse_exactly name text ≡ bad
    go (parsed u rest) e = absurd (h rest (parse_exactly_back name text e))
    go bad e = e
stripped name text (Some rest) h = ap (parse_exactly name) h ∙ parse_exactly_of name rest.now

pub same_name : {name name' : List ℕ} (text : List ℕ) (answer : Option (Bor (List ℕ))) → name ≡ name' → Leaves (parse_exactly name text) tt answer
    → Leaves (parse_exactly name' text) tt answer
same_name text answer e l = subst (λ (n : List ℕ). Leaves (parse_exactly n text) tt answer) e l

-- ---- the value of one digit or two

module _ (text : List ℕ) {a b : ℕ} (d : a ≡ get_or text 0 0 - 48) (e : b ≡ get_or text 1 0) where
  pub digits_value_one : b ≡ 10 → a ≡ digits_value text
  unfolding digits_value
  digits_value_one h = rw (d, eq-eqb (get_or text 1 0) 10 (sym e ∙ h))

  pub digits_value_two : (b ≡ 10 → ⊥) → 10 * a + (b - 48) ≡ digits_value text
  unfolding digits_value
  digits_value_two h = rw (d, e, ne_eqb (get_or text 1 0) 10 (λ q. h (e ∙ q)))

-- ---- a number

module _ (text : List ℕ) {v : ℕ} (e : v ≡ digits_value text) where
  pub number_small : v < 1 → parse_number text ≡ bad
  unfolding parse_number
  number_small h = rw (← e, lt-leb 1 v h)

  pub number_large : 48 < v → parse_number text ≡ bad
  unfolding parse_number
  number_large h = rw (← e, le-leb 1 v (omega arith), lt-leb v 48 h)

  module _ (some : 1 ≤ v) (most : v ≤ 48) where
    number_by : parse_number text ≡ and_then (parse_exactly (decimal v ++ (10 ∷ [])) text) (λ _ r. parsed v r)
    unfolding parse_number
    number_by = rw (← e, le-leb 1 v some, le-leb v 48 most)

    pub number_none : parse_exactly (decimal v ++ (10 ∷ [])) text ≡ bad → parse_number text ≡ bad
    number_none b = number_by ∙ then_bad _ b

    pub number_read : {rest : List ℕ} → parse_exactly (decimal v ++ (10 ∷ [])) text ≡ parsed tt rest → parse_number text ≡ parsed v rest
    number_read b = number_by ∙ then_parsed _ b

-- ---- flags

parse_flags_short : (n : ℕ) (t : List ℕ) → length t < n → parse_flags n t ≡ bad
unfolding parse_flags and_then
parse_flags_short zero t h = absurd (omega arith)
parse_flags_short (suc n) [] h = refl
parse_flags_short (suc n) (b ∷ t) h = go (eqb b 48 || eqb b 49) (parse_flags_short n t (omega arith))
  where
    go : (c : Bool) → parse_flags n t ≡ bad → cond c (and_then (parse_flags n t) λ fs r. parsed (eqb b 49 ∷ fs) r) bad ≡ bad
    go true e = rw e
    go false e = refl

pub bytes_short : (n : ℕ) (t : List ℕ) → length t < n → parse_as_bytes n t ≡ bad
unfolding parse_as_bytes
bytes_short n t h = then_bad _ (parse_flags_short n t h)

-- what flags read as bytes, after some that were read before
abbrev pub as_bytes : List ℕ → Parsed (List Bool) → Parsed (List ℕ)
as_bytes pre r = and_then r (λ fs s. parsed (pre ++ map as_byte fs) s)

as_bytes_more : (x : Parsed (List Bool)) (pre : List ℕ) (v : ℕ) (f : Bool) → as_byte f ≡ v
    → as_bytes pre (and_then x (λ fs s. parsed (f ∷ fs) s)) ≡ as_bytes (pre ++ (v ∷ [])) x
unfolding and_then
as_bytes_more (parsed fs s) pre v f e =
    ap (λ (l : List ℕ). parsed l s) (ap (λ (k : ℕ). pre ++ (k ∷ map as_byte fs)) e ∙ sym (append_assoc pre (v ∷ []) (map as_byte fs)))
as_bytes_more bad pre v f e = refl

-- the byte of a flag less that of 0
flag_as_byte : (b : ℕ) → (b ≡ 48) ⊎ (b ≡ 49) → as_byte (eqb b 49) ≡ b - 48
flag_as_byte b (inl e) = rw (ne_eqb b 49 (λ q. omega arith)) (omega arith)
flag_as_byte b (inr e) = rw (eq-eqb b 49 e) (omega arith)

flag_test : (b : ℕ) → (b ≡ 48) ⊎ (b ≡ 49) → eqb b 48 || eqb b 49 ≡ true
flag_test b (inl e) = rw (eq-eqb b 48 e)
flag_test b (inr e) = rw (ne_eqb b 48 (λ q. omega arith), eq-eqb b 49 e)

-- the flags of the first i bytes are in `out`: what is left to read decides
abbrev pub FlagsRead : List ℕ → ℕ → ℕ → List ℕ → Type 0
FlagsRead text n i out = parse_as_bytes n text ≡ as_bytes (take i out) (parse_flags (n - i) (drop i text))

module _ (text : List ℕ) (n : ℕ) where
  pub flags_begin : (out : List ℕ) → FlagsRead text n 0 out
  unfolding parse_as_bytes
  flags_begin out =
      let z : n - 0 ≡ n = omega arith in
      rw z

  pub flags_end : (out : List ℕ) → length out ≡ n → FlagsRead text n n out → parse_as_bytes n text ≡ parsed out (drop n text)
  unfolding parse_flags and_then
  flags_end out l f =
      let z : n - n ≡ 0 = omega arith in
      let w : take n out ≡ out = take_all n out (omega arith) in
      f ∙ rw z (ap (λ (o : List ℕ). parsed o (drop n text)) (append-nil (take n out) ∙ w))

  -- v is the i-th byte
  module _ (i : ℕ) (h : i < n) (l : i < length text) {v : ℕ} (e : v ≡ get_or text i 0) where
    flags_one : parse_flags (n - i) (drop i text)
        ≡ cond (eqb v 48 || eqb v 49) (and_then (parse_flags (n - (i + 1)) (drop (i + 1) text)) λ fs r. parsed (eqb v 49 ∷ fs) r) bad
    unfolding parse_flags
    flags_one =
        let m : n - i ≡ suc (n - (i + 1)) = omega arith in
        let t : drop i text ≡ get_or text i 0 ∷ drop (i + 1) text = drop-cons text i 0 l
        ∙ ap (λ (k : ℕ). get_or text i 0 ∷ drop k text) (sym (add-one i)) in
        rw (m, t, e)

    pub flags_none : (out : List ℕ) → FlagsRead text n i out → (v ≡ 48 → ⊥) → (v ≡ 49 → ⊥) → parse_as_bytes n text ≡ bad
    flags_none out f p q = f ∙ then_bad _ (flags_one ∙ rw (ne_eqb v 48 p, ne_eqb v 49 q))

    pub flags_turn : (out : List ℕ) → FlagsRead text n i out → (v ≡ 48) ⊎ (v ≡ 49) → i < length out
        → FlagsRead text n (i + 1) (set out i (v - 48))
    flags_turn out r f o =
        let q : parse_flags (n - i) (drop i text)
        ≡ and_then (parse_flags (n - (i + 1)) (drop (i + 1) text)) (λ fs r. parsed (eqb v 49 ∷ fs) r) = flags_one ∙ rw (flag_test v f) in
        let t : take (i + 1) (set out i (v - 48)) ≡ take i out ++ ((v - 48) ∷ []) = ap (λ (k : ℕ). take k (set out i (v - 48))) (add-one i)
        ∙ take-suc-set out i (v - 48) o in
        r ∙ (ap (as_bytes (take i out)) q
        ∙ (as_bytes_more (parse_flags (n - (i + 1)) (drop (i + 1) text)) (take i out) (v - 48) (eqb v 49)
        (flag_as_byte v f) ∙ ap (λ (p : List ℕ). as_bytes p (parse_flags (n - (i + 1)) (drop (i + 1) text))) (sym t)))

-- a byte of the first n is one of the text
pub byte_given : (n i : ℕ) (text : List ℕ) {given : List ℕ} → given ≡ take n text → i < n → get_or given i 0 ≡ get_or text i 0
byte_given n i text {given} e h = rw e (get_or-take n text i 0 h)

-- ---- the structure's line

module _ (text : List ℕ) {b : ℕ} (e : b ≡ get_or text 0 0) where
  pub structure_empty : b ≡ 10 → parse_structure text ≡ parsed (structure_bytes []) text
  unfolding parse_structure flags_given parse_flags and_then
  structure_empty h = rw (eq-eqb (get_or text 0 0) 10 (sym e ∙ h))

  module _ (h : b ≡ 10 → ⊥) where
    nine : flags_given text ≡ 9
    unfolding flags_given
    nine = rw (ne_eqb (get_or text 0 0) 10 (λ q. h (e ∙ q)))

    structure_as_bytes : parse_structure text ≡ parse_as_bytes 9 text
    unfolding parse_structure parse_as_bytes and_then
    structure_as_bytes = rw nine (go (parse_flags 9 text) refl)
      where
        go : (r : Parsed (List Bool)) → parse_flags 9 text ≡ r
            → and_then r (λ fs s. parsed (structure_bytes fs) s) ≡ and_then r (λ fs s. parsed (map as_byte fs) s)
        go (parsed fs s) q = ap (λ (l : List ℕ). parsed l s) (sym (nine_bytes fs (parse_flags_back 9 text fs s q).many))
        go bad q = refl

    pub structure_given : {r : Parsed (List ℕ)} → parse_as_bytes 9 text ≡ r → parse_structure text ≡ r
    structure_given q = structure_as_bytes ∙ q
