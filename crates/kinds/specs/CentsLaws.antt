-- Whole cents keep the laws of a kind. Assumes nothing.
use Rattle.std.specs.Prelude.{◌≡◌, ℕ, zero, suc, ◌*◌, ◌^◌, ◌<◌, ◌≤◌, Bool, true, false, cond, ◌&&◌, List, [], ◌∷◌, map, length, ℤ, pos, negsuc, ◌+ℤ◌, neg_ℤ, int_div, int_le, refl}
use Rattle.std.proofs.Common.{sym, ap, ◌∙◌, arith, div-le_self}
use Rattle.std.proofs.Math.Nat.{zero-div}
use Rattle.std.proofs.Math.IntN.{neg_ℤ-neg_ℤ, neg_ℤ-+ℤ}
use Rattle.std.proofs.lemmas.Int.{ints}
use Rattle.std.specs.Int.{saturate_to_bits}
use Rattle.kinds.specs.Kinds.{Same, sum, Summable, Lawful}
use Rattle.kinds.specs.Cents.{cents, within, turn, least, limit}

within_neg : (n : ℕ) (z : ℤ) → within n (neg_ℤ z) ≡ within n z
within_neg n z = grind (arith, ints)

not_least : (n : ℕ) (z : ℤ) → n < 2 ^ 63 → within n z ≡ true → (int_le z least && int_le least z) ≡ false
not_least n z h w = grind (arith, ints)

turn_is : (n : ℕ) (z : ℤ) → n < 2 ^ 63 → within n z ≡ true → turn z ≡ neg_ℤ z
turn_is n z h w = ap (λ (b : Bool). cond b z (neg_ℤ z)) (not_least n z h w)

turn_number : (z : ℤ) → within limit (turn z) ≡ within limit z
turn_number z = grind (arith, ints)

saturated_is : (n : ℕ) (z : ℤ) → n < 2 ^ 63 → within n z ≡ true → saturate_to_bits 63 z ≡ z
saturated_is n z h w = grind (arith, ints)

within_plus : (n : ℕ) (s x : ℤ) → within (n * limit) s ≡ true → within limit x ≡ true → within (suc n * limit) (s +ℤ x) ≡ true
within_plus n s x h w = grind (arith, ints)

quot_neg : (s : ℤ) (c : ℕ) → int_div (neg_ℤ s) (pos c) ≡ neg_ℤ (int_div s (pos c))
quot_neg (pos zero) c = rw zero-div
quot_neg (pos (suc a)) c = refl
quot_neg (negsuc a) c = sym (neg_ℤ-neg_ℤ _)

within_quot : (n : ℕ) (s : ℤ) (c : ℕ) → within n s ≡ true → within n (int_div s (pos c)) ≡ true
within_quot n (pos a) c h = let d = div-le_self a c in grind (arith, ints)
within_quot n (negsuc a) c h = let d = div-le_self (suc a) c in grind (arith, ints)

fits : (n : ℕ) → n ≤ 4096 → n * limit < 2 ^ 63
fits n h = omega arith

-- ---- running sums
-- a sum of n numbers lies within n times the limit, and is that of the turned numbers, turned
record Sums (xs : List ℤ) : Type 0 where
  near : within (length xs * limit) (sum cents xs) ≡ true
  opposite : sum cents (map turn xs) ≡ neg_ℤ (sum cents xs)

sums : (xs : List ℤ) → length xs ≤ 4096 → Summable cents xs → Sums xs
sums [] few h = record { near = refl; opposite = refl }
sums (x ∷ earlier) few (h, i, n, j) =
    let n_few : length earlier ≤ 4096 = omega arith in
    let s = sum cents earlier in
    let before = sums earlier n_few h in
    let near : within (suc (length earlier) * limit) (s +ℤ x) ≡ true = within_plus (length earlier) s x before.near n in
    let exact : saturate_to_bits 63 (s +ℤ x) ≡ s +ℤ x = saturated_is _ (s +ℤ x) (fits (suc (length earlier)) few) near in
    let turned : neg_ℤ s +ℤ neg_ℤ x ≡ neg_ℤ (s +ℤ x) = sym (neg_ℤ-+ℤ s x) in
    let exact_turned : saturate_to_bits 63 (neg_ℤ (s +ℤ x)) ≡ neg_ℤ (s +ℤ x) = saturated_is _ (neg_ℤ (s +ℤ x)) (fits (suc (length earlier)) few) (within_neg _ (s +ℤ x) ∙ near) in
    record {
      near = ap (within (suc (length earlier) * limit)) exact ∙ near;
      opposite = ap (λ (z : ℤ). saturate_to_bits 63 (z +ℤ turn x)) before.opposite ∙ ap (λ (z : ℤ). saturate_to_bits 63 (neg_ℤ s +ℤ z)) (turn_is limit x (omega arith) n) ∙ ap (saturate_to_bits 63) turned ∙ exact_turned ∙ ap neg_ℤ (sym exact);
    }

same : (x y : ℤ) → x ≡ y → Same cents x y
same x y e = (grind (arith, ints), grind (arith, ints))

pub cents_lawful : Lawful cents
cents_lawful = record {
  turned_number = turn_number;
  turned_infinite = λ x. refl;
  sum_infinite = λ xs few h. refl;
  sum_turned = λ xs few h i.
      let both = sums xs few h in
      same _ _ (both.opposite ∙ sym (turn_is _ (sum cents xs) (fits (length xs) few) both.near));
  mean_turned = λ xs few h i c low high.
      let both = sums xs few h in
      let s = sum cents xs in
      same _ _ (ap (λ (z : ℤ). int_div z (pos c)) both.opposite ∙ quot_neg s c ∙ sym (turn_is _ (int_div s (pos c)) (fits (length xs) few) (within_quot _ s c both.near)));
}
