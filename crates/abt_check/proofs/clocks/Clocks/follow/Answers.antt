use Rattle.abt_check.proofs.Clocking.{stamps-by, stamps-not}
use Rattle.abt_check.proofs.clocks.Clocks.follow.Goals as goal

pub returns-then-not-allows : goal.returns-then-not-allows
returns-then-not-allows c J are st = stamps-not c.args.w.now J c.args.self.now c.site_of-site.result c.args.event.now are st c.site_of-site.ensures c.requires.site (λ ok. cc (c.allows.ensures.1 ok))

pub returns : goal.returns
returns c J are st =
    stamps-by c.args.w.now J c.args.self.now _ c.site_of-site.result c.args.event.now are st c.requires.stream c.site_of-site.ensures c.requires.site (c.allows.ensures.0 c.if-not-allows.false) c.note.ensures
