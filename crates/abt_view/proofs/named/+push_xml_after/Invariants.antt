use Rattle.std.proofs.Common.{length}
use Rattle.abt_view.proofs.named.+push_xml_after.Given as goal

abbrev pub decreases-push_xml_after : goal.decreases-push_xml_after
decreases-push_xml_after l = length l.text.now
