-- What a flip and a chain keep. Assumes nothing.
use Rattle.std.specs.Prelude.{◌≡◌, Bool, true, false, ◌&&◌, refl}
use Rattle.std.proofs.Common.{ap, ◌∙◌}
use Rattle.kinds.specs.Kinds.{Meaning}
use Rattle.conversion.specs.Conversions.{Rule, in_range, Sound, AllNumbers, Mirrored, flipped, chained}

and_left : (a b : Bool) → (a && b) ≡ true → a ≡ true
and_left true b h = refl
and_left false b h = h

module _ {K : Type 0} (k : Meaning K) where
  -- what is in range is a number
  pub number_in : (c : Rule K) (x : K) → in_range k c x ≡ true → k.number x ≡ true
  number_in c x h = and_left (k.number x) (k.at_most c.low x && k.at_most x c.high) h

  -- every number is in the back range of a full conversion
  in_full : (c : Rule K) → AllNumbers k c → (x : K) → k.number x ≡ true → in_range k c x ≡ true
  in_full c all x n = all x ∙ n

  pub flip_sound : (c : Rule K) → Sound k c → AllNumbers k c → Sound k (flipped c)
  flip_sound c s all = record {
    low_in = s.low_in;
    high_in = s.high_in;
    on_in = λ x n. in_full c all (c.back x) (s.back_number x (in_full c all x n));
    back_number = λ x r. number_in c (c.on x) (s.on_in x (number_in c x r));
  }

  pub flip_mirrored : (c : Rule K) → AllNumbers k c → Mirrored k c → Mirrored k (flipped c)
  flip_mirrored c all m = record {
    low_turned = m.low_turned;
    on_turned = λ x n. m.back_turned x (in_full c all x n);
    back_turned = λ x r. m.on_turned x (number_in c x r);
  }

  module _ (a b : Rule K) (sa : Sound k a) (sb : Sound k b) (all : AllNumbers k a) where
    pub chain_sound : Sound k (chained a b)
    chain_sound = record {
      low_in = sb.low_in;
      high_in = sb.high_in;
      on_in = λ x n. sb.on_in (a.on x) (number_in a (a.on x) (sa.on_in x n));
      back_number = λ x r. sa.back_number (b.back x) (in_full a all (b.back x) (sb.back_number x r));
    }

    pub chain_mirrored : Mirrored k a → Mirrored k b → Mirrored k (chained a b)
    chain_mirrored ma mb = record {
      low_turned = mb.low_turned;
      on_turned = λ x n. ap b.on (ma.on_turned x n) ∙ mb.on_turned (a.on x) (number_in a (a.on x) (sa.on_in x n));
      back_turned = λ x r. ap a.back (mb.back_turned x r) ∙ ma.back_turned (b.back x) (in_full a all (b.back x) (sb.back_number x r));
    }
