use Rattle.abt_adders.proofs.Reports.{adders-report}
use Rattle.abt_adders.proofs.laws.adders_report.Goals as goal

pub returns : goal.returns
returns c = adders-report
