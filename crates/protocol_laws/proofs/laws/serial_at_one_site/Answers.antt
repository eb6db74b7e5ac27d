use Rattle.protocol_laws.proofs.OneSite.{serial_at_one_site}
use Rattle.protocol_laws.proofs.laws.serial_at_one_site.Goals as goal

pub returns : goal.returns
returns c = serial_at_one_site
