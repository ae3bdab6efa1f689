use Rattle.camera_text.proofs.Steps.{in-front}
use Rattle.camera_text.proofs.headed.Goals as goal

pub returns : goal.returns
returns c = in-front _ c.args.verdict _ _ c.find-place.ensures.value c.is_device.ensures c.device-named.ensures.put c.behind-told.ensures.put c.refusal.ensures
