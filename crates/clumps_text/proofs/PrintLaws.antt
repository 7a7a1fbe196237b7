-- Printing: numbers, lines, numbers with blanks between.
-- Assumes nothing.
use mathlib.Core.Path.{◌≡◌, sym, ap, ◌∙◌, subst}
use mathlib.Core.List.{List, [], ◌∷◌, ◌++◌, append_assoc, append-nil}
use Prim.Native.Nat.{ℕ, ◌+◌, ◌/◌, ◌%◌, ◌≤◌, ◌<◌}
use native.Mathlib.Omega.{arith}
use native.Mathlib.Numerals.{add-one}
use lib.ListN.{length, get_or, take}
use lib.Seq.{take-suc}
use Rattle.overlay.specs.declared.Writer.{Writer}
use Rattle.overlay.specs.Writers.{Writes}
use Rattle.overlay.proofs.WriterLaws.{writes_then, writes_none}
use Rattle.clumps_text.specs.Text.{line, decimal, blank_before, decimals}
use Rattle.clumps_text.proofs.DecimalLaws.{decimal_small, decimal_more}

-- a number below ten is its digit; another is the digits before the last one, and that
pub writes_digit : (n : ℕ) {a b : Writer ℕ} → n < 10 → Writes ((48 + n % 10) ∷ []) a b → Writes (decimal n) a b
writes_digit n {a} {b} h w =
    let m : n % 10 ≡ n = omega arith in
    subst (λ (l : List ℕ). Writes l a b) (ap (λ (k : ℕ). (48 + k) ∷ []) m ∙ sym (decimal_small n h)) w

pub writes_digits : (n : ℕ) {a b c : Writer ℕ} → 10 ≤ n → Writes (decimal (n / 10)) a b → Writes ((48 + n % 10) ∷ []) b c
    → Writes (decimal n) a c
writes_digits n {a} {c = c} h w v = subst (λ (l : List ℕ). Writes l a c) (sym (decimal_more n h)) (writes_then w v)

-- ---- lines

-- the lines that follow come after it
pub writes_line : (name value rest : List ℕ) {a b c : Writer ℕ} → Writes (line name value []) a b → Writes rest b c
    → Writes (line name value rest) a c
writes_line name value rest {a} {c = c} w v =
    let e : line name value [] ++ rest ≡ line name value rest = simp append_assoc in
    subst (λ (l : List ℕ). Writes l a c) e (writes_then w v)

-- ---- numbers with blanks between

pub decimals_none : (numbers : List ℕ) {a : Writer ℕ} → length numbers ≡ 0 → Writes (decimals numbers) a a
unfolding decimals
decimals_none [] {a} e = writes_none a
decimals_none (n ∷ ns) e = absurd (omega arith)

-- the first number, then the others with a blank before each
pub decimals_first : (numbers : List ℕ) {n : ℕ} {others : List ℕ} {a b c : Writer ℕ} → numbers ≡ n ∷ others → Writes (decimal n) a b
    → Writes (blank_before others) b c → Writes (decimals numbers) a c
unfolding decimals
decimals_first numbers {a = a} {c = c} e w v = subst (λ (l : List ℕ). Writes (decimals l) a c) (sym e) (writes_then w v)

blanks_more : (xs : List ℕ) (n : ℕ) → blank_before (xs ++ n ∷ []) ≡ blank_before xs ++ (32 ∷ []) ++ decimal n
unfolding blank_before
blanks_more [] n = ap (λ (l : List ℕ). 32 ∷ l) (append-nil (decimal n))
blanks_more (x ∷ xs) n = rw (blanks_more xs n) (simp append_assoc)

-- one number more
pub blanks_turn : (numbers : List ℕ) (i : ℕ) {a b c d : Writer ℕ} → i < length numbers → Writes (blank_before (take i numbers)) a b
    → Writes (32 ∷ []) b c → Writes (decimal (get_or numbers i 0)) c d → Writes (blank_before (take (i + 1) numbers)) a d
blanks_turn numbers i {a} {d = d} h w x y =
    let t : take (i + 1) numbers ≡ take i numbers ++ get_or numbers i 0 ∷ [] = rw (add-one i) (take-suc numbers i 0 h) in
    subst (λ (l : List ℕ). Writes l a d) (sym (ap blank_before t ∙ blanks_more (take i numbers) (get_or numbers i 0)))
    (writes_then (writes_then w x) y)
