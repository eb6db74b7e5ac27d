use Rattle.node_host.proofs.Taking.{recovered_push}
use Rattle.node_host.proofs.laws.what_is_recovered_goes_on.Goals as goal

pub returns : goal.returns
returns c = recovered_push
