-- What the author of a conversion of floats has to show, by the ends of its back range: that on of a number
-- fits and lies between the ends, that back of what lies there is a number, and, if it is odd, that both
-- functions turn with the sign. Assumes nothing.
use Rattle.std.proofs.Common.{◌≡◌, Bool, true, false, not, ◌&&◌, T, sym, refl, ap, ◌∙◌, subst}
use lib.Ieee.{Float, Format, binary32, binary64, inf, neg, le, is_nan, fits, of_bits}
use Rattle.numeric.proofs.Rounding.{and_l, and_r, and_i}
use Rattle.numeric.proofs.Numbers.{inf_le}
use Rattle.numeric.proofs.Order.{le_inf, le_self, number_above}
use Rattle.numeric.proofs.Tests.{is_on, on}
use Rattle.kinds.specs.Floats.{floats}
use Rattle.conversion.specs.Conversions.{in_range, Sound, AllNumbers, Mirrored}
use Rattle.conversion.specs.FloatRules.{minus_infinity, infinity, everywhere, upward, between}

-- a number of the format
abbrev pub Number : Format → Float → Type 0
Number f x = T (fits f x) × T (not (is_nan x))

inf_number : (f : Format) (s : Bool) → Number f (inf s)
unfolding fits is_nan
inf_number f s = (tt, tt)

minus_is : (f : Format) → inf true ≡ minus_infinity f
unfolding of_bits
minus_is binary32 = refl
minus_is binary64 = refl

plus_is : (f : Format) → inf false ≡ infinity f
unfolding of_bits
plus_is binary32 = refl
plus_is binary64 = refl

turned_infinity : inf true ≡ neg (inf false)
unfolding neg
turned_infinity = refl

module _ (f : Format) where
  -- a number, as the kind says it
  pub is_number : (x : Float) → Number f x → (floats f).number x ≡ true
  is_number x n = is_on (fits f x && not (is_nan x)) (and_i (fits f x) (not (is_nan x)) n.0 n.1)

  pub number_is : (x : Float) → (floats f).number x ≡ true → Number f x
  number_is x h = let t = on (fits f x && not (is_nan x)) h in (and_l (fits f x) (not (is_nan x)) t, and_r (fits f x) (not (is_nan x)) t)

  module _ (to from : Float → Float) (low high : Float) where
    abbrev Ends : Float → Bool
    Ends x = le low x && le x high

    is_in : (x : Float) → T (fits f x) → T (le low x) → T (le x high) → in_range (floats f) (between to from low high) x ≡ true
    is_in x w l h =
        let n = is_number x (w, number_above low x l) in
        ap (λ (b : Bool). b && Ends x) n ∙ is_on (Ends x) (and_i (le low x) (le x high) l h)

    pub between_sound : Number f low → Number f high → T (le low high) → ((x : Float) → Number f x → T (fits f (to x)) × T (le low (to x)) × T (le (to x) high)) → ((x : Float) → Number f x → T (le low x) → T (le x high) → Number f (from x)) → Sound (floats f) (between to from low high)
    between_sound l h o there back-there = record {
      low_in = is_in low l.0 (le_self low l.1) o;
      high_in = is_in high h.0 o (le_self high h.1);
      on_in = λ x n. let y = there x (number_is x n) in is_in (to x) y.0 y.1 y.2;
      back_number = λ x r.
          let t = on ((floats f).number x && Ends x) r in
          let n = number_is x (is_on ((floats f).number x) (and_l ((floats f).number x) (Ends x) t)) in
          let e = and_r ((floats f).number x) (Ends x) t in
          is_number (from x) (back-there x n (and_l (le low x) (le x high) e) (and_r (le low x) (le x high) e));
    }

    pub between_mirrored : low ≡ neg high → ((x : Float) → to (neg x) ≡ neg (to x)) → ((x : Float) → from (neg x) ≡ neg (from x)) → Mirrored (floats f) (between to from low high)
    between_mirrored e p q = record {
      low_turned = e;
      on_turned = λ x n. p x;
      back_turned = λ x r. q x;
    }

  module _ (to from : Float → Float) where
    pub upward_sound : (low : Float) → Number f low → ((x : Float) → Number f x → T (fits f (to x)) × T (le low (to x))) → ((x : Float) → Number f x → T (le low x) → Number f (from x)) → Sound (floats f) (upward f to from low)
    upward_sound low l there back-there =
        subst (λ (z : Float). Sound (floats f) (between to from low z)) (plus_is f)
        (between_sound to from low (inf false) l (inf_number f false) (le_inf low l.1)
        (λ x n. let y = there x n in (y.0, y.1, le_inf (to x) (number_above low (to x) y.1)))
        (λ x n p q. back-there x n p))

    pub everywhere_sound : ((x : Float) → Number f x → Number f (to x)) → ((x : Float) → Number f x → Number f (from x)) → Sound (floats f) (everywhere f to from)
    everywhere_sound there back-there =
        subst (λ (z : Float). Sound (floats f) (between to from z (infinity f))) (minus_is f)
        (upward_sound (inf true) (inf_number f true) (λ x n. let y = there x n in (y.0, inf_le (to x) y.1)) (λ x n p. back-there x n))

    pub everywhere_all : AllNumbers (floats f) (everywhere f to from)
    everywhere_all =
        subst (λ (z : Float). AllNumbers (floats f) (between to from (minus_infinity f) z)) (plus_is f)
        (subst (λ (z : Float). AllNumbers (floats f) (between to from z (inf false))) (minus_is f)
        (λ x. all_in (le (inf true) x) (le x (inf false)) ((floats f).number x) (λ h. inf_le x (number_is x h).1) (λ h. le_inf x (number_is x h).1)))
      where
        all_in : (a b n : Bool) → (n ≡ true → T a) → (n ≡ true → T b) → (n && (a && b)) ≡ n
        all_in a b true p q = is_on (a && b) (and_i a b (p refl) (q refl))
        all_in a b false p q = refl

    pub everywhere_mirrored : ((x : Float) → to (neg x) ≡ neg (to x)) → ((x : Float) → from (neg x) ≡ neg (from x)) → Mirrored (floats f) (everywhere f to from)
    everywhere_mirrored p q =
        between_mirrored to from (minus_infinity f) (infinity f) (sym (minus_is f) ∙ turned_infinity ∙ ap neg (plus_is f)) p q
