use borrow.Author.Rules.{rules}
use Rattle.setup_lines.proofs.setting_name.Goals as goal

pub returns-in-Brightness : goal.returns-in-Brightness
returns-in-Brightness c = record { put = rw c.in-Brightness.is c.put.ensures; upper_bound = search rules }

pub returns-in-Contrast : goal.returns-in-Contrast
returns-in-Contrast c = record { put = rw c.in-Contrast.is c.put-in-Contrast.ensures; upper_bound = search rules }

pub returns-in-Hue : goal.returns-in-Hue
returns-in-Hue c = record { put = rw c.in-Hue.is c.put-in-Hue.ensures; upper_bound = search rules }

pub returns-in-Saturation : goal.returns-in-Saturation
returns-in-Saturation c = record { put = rw c.in-Saturation.is c.put-in-Saturation.ensures; upper_bound = search rules }
