use Rattle.std.proofs.Common.{ℕ, ◌%◌, ◌^◌, T, ltb, sym, ap, ◌∙◌, subst}
use lib.Ieee.{binary32}
use Rattle.numeric.proofs.Words.{bits_is}
use Rattle.float.proofs.width.F32Width.size_word.Goals as goal

pub returns-clause-order : goal.returns-clause-order
returns-clause-order c = λ w h.
    ap (λ (b : ℕ). ltb (b % 2 ^ 31) w) c.f32_to_bits_with_nan.ensures
    ∙ bits_is binary32 c.args.self w (subst T (sym c.well_formed.0.1) tt) h
