use Rattle.table_replay.proofs.Plain.{plain_forwarded}
use Rattle.table_replay.proofs.laws.plain_walks_are_forwarded.Goals as goal

pub returns : goal.returns
returns c T rules start target hops plain any = plain_forwarded T rules target start hops plain any
