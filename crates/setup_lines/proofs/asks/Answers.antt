use Rattle.text.proofs.Puts.{then}
use Rattle.setup_lines.proofs.asks.Goals as goal

pub returns : goal.returns
returns c = then c.put-named.ensures
    (then c.number-numbered.ensures.put
    (then c.put-controlled.ensures (then c.setting_name-set.ensures.put (then c.put-requested.ensures (then c.request_name-told.ensures.put c.put.ensures)))))
