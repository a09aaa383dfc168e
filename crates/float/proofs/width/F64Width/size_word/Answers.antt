use Rattle.std.proofs.Common.{ℕ, ◌/◌, ◌%◌, ◌^◌, T, ltb, sym, ap, ◌∙◌, subst}
use Rattle.numeric.proofs.Words.{high_is}
use Rattle.float.proofs.width.F64Width.size_word.Goals as goal

pub returns-clause-order : goal.returns-clause-order
returns-clause-order c = λ w h.
    ap (λ (b : ℕ). ltb (b % 2 ^ 63 / 2 ^ 32) w) c.f64_to_bits_with_nan-bits.ensures
    ∙ high_is c.args.self w (subst T (sym c.well_formed.0.1) tt) h
