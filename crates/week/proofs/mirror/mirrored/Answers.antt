use Rattle.week.proofs.Lawful.{law_stands}
use Rattle.week.proofs.mirror.mirrored.Goals as goal

pub returns-clause-week : goal.returns-clause-week
returns-clause-week g c zero_finite n few =
    let self = c.args.c.now in
    (law_stands g.C.Figure.Kind.means (g.C.Conversion.rule self) g.met.C.Figure.Kind.lawful (g.met.C.Conversion.sound self) n few c.args.calls.now).mirrored zero_finite (g.met.C.Odd.mirrored self)
