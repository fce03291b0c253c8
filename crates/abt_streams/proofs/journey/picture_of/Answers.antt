-- What streams and objects leave is shown.
use Rattle.std.proofs.Common.{◌∙◌}
use Rattle.abt_drain.proofs.Closing.{all-fit, lead-shows, left-many}
use Rattle.abt_streams.proofs.Journeys.{if-ok}
use Rattle.abt_streams.proofs.journey.picture_of.Goals as goal

pub picture-requires-clause-streams : goal.picture-requires-clause-streams
picture-requires-clause-streams c = left-many c.args.streams.items c.in_ok-rest.rest.items c.in_ok-rest.ensures.parts ∙ c.requires.under_way.2.streams_are.many

pub picture-requires-clause-fits : goal.picture-requires-clause-fits
picture-requires-clause-fits c =
    all-fit c.args.w.now c.args.streams.items c.in_ok-rest.rest.items c.in_ok-rest.ensures.parts (λ s stream at. (c.requires.under_way.2.streams_are.own s stream at).fits)

pub returns-clause-shown : goal.returns-clause-shown
returns-clause-shown c =
    if-ok c.picture.result _ _ (λ rows shows. lead-shows c.args.w.now c.requires.under_way.1 c.args.streams.items c.args.objects c.in_ok-rest.rest.items rows c.requires.under_way.2.valid c.requires.under_way.2.streams_are c.in_ok-rest.ensures.parts shows)
    c.picture.ensures.units
