-- Digits and the numbers that they spell: the steps of the loops over digits, and reading back what was written.
use Rattle.std.proofs.Common.{◌≡◌, ℕ, zero, suc, ◌+◌, ◌*◌, ◌/◌, ◌%◌, ◌^◌, ◌<◌, ◌≤◌, Bool, true, ◌&&◌, List, [], ◌∷◌, ◌++◌, length, get_or, take, drop, sym, refl, ap, ◌∙◌, mod-lt, mod-eq_of_lt, mul_comm, pow-suc, add-one, arith, lit<, pow-add}
use native.Mathlib.Nat.{pow-le-pow_right, mod-one, one-le-pow}
use lib.Arith.{mod-mul}
use Rattle.std.proofs.lemmas.List.{at_drop_more, take_all, length-append, length_push, append_assoc}
use Rattle.std.proofs.lemmas.Bool.{and_from}
use Rattle.std.proofs.lemmas.Bool.Decides.{nat_tests}
use Rattle.lines.specs.Digits.{is_digit, digit_of, all_digits, spelled, byte_of, written}

-- one more digit is read: a number, followed by the digits from i on, spells v
module _ (n i v : ℕ) (digits : List ℕ) (inside : i < length digits) where
  carry : (d p s : ℕ) → (n * 16 + d) * p + s ≡ n * (p * 16) + (d * p + s)
  carry d p s = grind arith

  pub spell_more : (d next : ℕ) → d ≡ digit_of (get_or digits i 0) → next ≡ n * 16 + d
      → n * 16 ^ length (drop i digits) + spelled (drop i digits) ≡ v
      → next * 16 ^ length (drop (i + 1) digits) + spelled (drop (i + 1) digits) ≡ v
  spell_more d next e en inv =
      let tail : List ℕ = drop (i + 1) digits in
      ap (λ x. x * 16 ^ length tail + spelled tail) (en ∙ ap (λ x. n * 16 + x) e)
      ∙ (carry (digit_of (get_or digits i 0)) (16 ^ length tail) (spelled tail)
      ∙ (sym (ap (λ x. n * x + spelled (get_or digits i 0 ∷ tail)) (pow-suc 16 (length tail)))
      ∙ (sym (at_drop_more (λ l. n * 16 ^ length l + spelled l) digits i 0 inside) ∙ inv)))

pub all_more : (i : ℕ) (t v : Bool) (digits : List ℕ) → i < length digits → is_digit (get_or digits i 0) ≡ t
    → all_digits (drop i digits) ≡ v
    → t && all_digits (drop (i + 1) digits) ≡ v
all_more i t v digits inside e inv =
    sym (ap (λ x. x && all_digits (drop (i + 1) digits)) e)
    ∙ (sym (at_drop_more (λ l. all_digits l) digits i 0 inside) ∙ inv)

pub below_more : (n i d next : ℕ) → n < 16 ^ i → d < 16 → next ≡ n * 16 + d → next < 16 ^ (i + 1)
below_more n i d next h hd e =
    let power : 16 ^ (i + 1) ≡ 16 ^ i * 16 = ap (λ k. 16 ^ k) (add-one i) ∙ pow-suc 16 i in
    omega (arith, h, hd, power)

-- at most 16 digits fit 64 bits
pub fits_digits : (n i : ℕ) → n < 16 ^ i → i ≤ 16 → n < 2 ^ 64
fits_digits n i h hi =
    let most : 16 ^ i ≤ 16 ^ 16 = pow-le-pow_right (lit< tt) hi in
    omega (arith, h, most)

-- four bits a digit
sixteens : (place : ℕ) → 2 ^ (4 * place) ≡ 16 ^ place
sixteens zero = refl
sixteens (suc place) =
    let four : 4 * suc place ≡ 4 * place + 4 = omega arith in
    ap (λ k. 2 ^ k) four ∙ (pow-add 2 (4 * place) 4 ∙ (ap (λ x. x * 16) (sixteens place) ∙ sym (pow-suc 16 place)))

pub shifted : (n place : ℕ) → byte_of (n / 2 ^ (4 * place) % 16) ≡ byte_of (n / 16 ^ place % 16)
shifted n place = ap (λ x. byte_of (n / x % 16)) (sixteens place)

pub length_written : (places n : ℕ) → length (written places n) ≡ places
length_written zero n = refl
length_written (suc places) n = ap suc (length_written places n)

-- one more digit is written, behind those that are held
pub write_more : (place next places n byte : ℕ) (held : List ℕ) → place ≡ suc next → places ≤ 16
    → byte ≡ byte_of (n / 16 ^ next % 16)
    → held ++ written place n ≡ written places n
    → take 17 (held ++ byte ∷ []) ++ written next n ≡ written places n
write_more place next places n byte held e few eb inv =
    let sizes : length held + length (written place n) ≡ length (written places n) =
    sym (length-append held (written place n)) ∙ ap length inv in
    let room : length (held ++ byte ∷ []) ≤ 17 =
    omega (arith, sizes, length_written place n, length_written places n, length_push held byte) in
    ap (λ l. l ++ written next n) (take_all 17 (held ++ byte ∷ []) room)
    ∙ (append_assoc held (byte ∷ []) (written next n)
    ∙ (ap (λ b. held ++ b ∷ written next n) eb
    ∙ (sym (ap (λ k. held ++ written k n) e) ∙ inv)))

-- what is written are digits, and read back they are the number
module _ (d : ℕ) (small : d < 16) where
  written_digit : is_digit (byte_of d) ≡ true
  written_digit = grind (arith, nat_tests)

  read_digit : digit_of (byte_of d) ≡ d
  read_digit = grind (arith, nat_tests)

pub all_written : (places n : ℕ) → all_digits (written places n) ≡ true
all_written zero n = refl
all_written (suc places) n =
    and_from (is_digit (byte_of (n / 16 ^ places % 16))) (all_digits (written places n))
    (written_digit (n / 16 ^ places % 16) (mod-lt (n / 16 ^ places) (lit< tt)))
    (all_written places n)

spelled_written : (places n : ℕ) → spelled (written places n) ≡ n % 16 ^ places
spelled_written zero n = sym (mod-one n)
spelled_written (suc places) n =
    ap (λ d. d * 16 ^ length (written places n) + spelled (written places n)) (read_digit (n / 16 ^ places % 16) (mod-lt (n / 16 ^ places) (lit< tt)))
    ∙ (ap (λ k. n / 16 ^ places % 16 * 16 ^ k + spelled (written places n)) (length_written places n)
    ∙ (ap (λ s. n / 16 ^ places % 16 * 16 ^ places + s) (spelled_written places n)
    ∙ (sym (mod-mul n {m = 16} {c = 16 ^ places} (lit< tt) (one-le-pow places 16 (lit< tt)))
    ∙ ap (λ m. n % m) (mul_comm 16 (16 ^ places) ∙ sym (pow-suc 16 places)))))

pub read_back : (places n : ℕ) → n < 16 ^ places → spelled (written places n) ≡ n
read_back places n h = spelled_written places n ∙ mod-eq_of_lt h
