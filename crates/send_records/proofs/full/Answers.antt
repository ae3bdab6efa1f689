use Rattle.send_records.proofs.Wrote.{put_record}
use Rattle.send_records.proofs.full.Goals as goal

pub returns : goal.returns
returns c = put_record _ _ _ _ c.write.ensures
