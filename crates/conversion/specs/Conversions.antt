-- What a conversion means, and what each conversion owes.
use Rattle.std.specs.Prelude.{◌≡◌, Bool, true, cond, ◌&&◌, Ok, Err, Result}
use Rattle.refusals.specs.Refusals.{Told}
use Rattle.kinds.specs.Kinds.{Meaning}
use Rattle.conversion.specs.Refusals.{not_a_number, outside}
use Rattle.conversion.specs.declared.refusal.Refusal.{Refusal}
use Rattle.conversion.specs.declared.refusal.Refusal.TheVariants.{NotANumber, OutsideBackRange}

-- an answer, where there is one, passes this test
abbrev pub Gives : {K : Type 0} → (K → Bool) → Result K Refusal → Type 0
Gives test (Ok y) = test y ≡ true
Gives test (Err e) = Unit {0}

-- A conversion is a function on, a function back, and the two ends of the back range.
pub record Rule (K : Type 0) : Type 0 where
  pub on : K → K
  pub back : K → K
  pub low : K
  pub high : K

-- the figure itself, where it is a number
abbrev pub numbered : {K : Type 0} → Meaning K → K → Result K Refusal
numbered k x = cond (k.number x) (Ok x) (Err NotANumber)

-- the same, by what is told of the refusal
abbrev pub number_answer : {K : Type 0} → Meaning K → K → Result K Told
number_answer k x = cond (k.number x) (Ok x) (Err not_a_number)

module _ {K : Type 0} (k : Meaning K) (c : Rule K) where
  -- the back range: the numbers from the low end to the high end, both included as numbers
  abbrev pub in_range : K → Bool
  in_range x = k.number x && (k.at_most c.low x && k.at_most x c.high)

  -- the figure itself, where it lies in the back range
  abbrev pub ranged : K → Result K Refusal
  ranged x = cond (in_range x) (Ok x) (Err OutsideBackRange)

  -- the same, by what is told of the refusal
  abbrev pub range_answer : K → Result K Told
  range_answer x = cond (in_range x) (Ok x) (Err outside)

  -- on takes exactly the numbers
  abbrev pub on_answer : K → Result K Told
  on_answer x = cond (k.number x) (Ok (c.on x)) (Err not_a_number)

  -- back takes exactly the back range
  abbrev pub back_answer : K → Result K Told
  back_answer x = cond (in_range x) (Ok (c.back x)) (Err outside)

  -- of a full conversion back takes every number
  abbrev pub back_number_answer : K → Result K Told
  back_number_answer x = cond (k.number x) (Ok (c.back x)) (Err outside)

  -- on and then back: only what is no number is refused
  abbrev pub round_trip : K → Result K Told
  round_trip x = cond (k.number x) (Ok (c.back (c.on x))) (Err not_a_number)

  -- What every conversion owes: both ends lie in the back range, on gives a number in it, and back a number.
  pub record Sound : Type 0 where
    pub low_in : in_range c.low ≡ true
    pub high_in : in_range c.high ≡ true
    pub on_in : (x : K) → k.number x ≡ true → in_range (c.on x) ≡ true
    pub back_number : (x : K) → in_range x ≡ true → k.number (c.back x) ≡ true

  -- Full: the back range is all numbers of the kind.
  abbrev pub AllNumbers : Type 0
  AllNumbers = (x : K) → in_range x ≡ k.number x

  -- Odd: the ends are -e and e, and on and back of a sign-turned figure are the sign-turned answers, bit for bit.
  pub record Mirrored : Type 0 where
    pub low_turned : c.low ≡ k.turned c.high
    pub on_turned : (x : K) → k.number x ≡ true → c.on (k.turned x) ≡ k.turned (c.on x)
    pub back_turned : (x : K) → in_range x ≡ true → c.back (k.turned x) ≡ k.turned (c.back x)

-- Flip: on and back exchanged. It is made of a full conversion, so that the ends stay.
abbrev pub flipped : {K : Type 0} → Rule K → Rule K
flipped c = record { on = c.back; back = c.on; low = c.low; high = c.high }

-- Chain: the second conversion after the first.
abbrev pub chained : {K : Type 0} → Rule K → Rule K → Rule K
chained first second = record {
  on = λ x. second.on (first.on x);
  back = λ x. first.back (second.back x);
  low = second.low;
  high = second.high;
}

-- On and back both turn the sign, within these ends.
abbrev pub reversed : {K : Type 0} → Meaning K → K → K → Rule K
reversed k low high = record { on = k.turned; back = k.turned; low = low; high = high }
