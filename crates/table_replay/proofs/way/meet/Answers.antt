use Rattle.table_replay.proofs.Places.{meets}
use Rattle.table_replay.proofs.way.meet.Goals as goal

pub returns : goal.returns
returns c = meets c.args.met.now.keys c.insert_full.new.self.keys c.in_ok-share.field-0 c.args.place.now c.in-Ok.put.1 c.in_ok-share.ensures c.in-Ok.ensures.added c.in-Ok.ensures.keys
