use Rattle.std.proofs.Common.{arith}
use Rattle.camera_settings.specs.declared.Request.TheVariants.{GetCur, GetMin, GetMax, GetRes, GetDef, SetCur}
use Rattle.camera_settings.specs.Numbers.{RequestIs.has_code}
use Rattle.camera_settings.proofs.Known.{no-request}
use Rattle.camera_settings.proofs.request_of.Goals as goal

pub returns-in-129 : goal.returns-in-129
returns-in-129 c = has_code GetCur c.in-129.is

pub returns-in-130 : goal.returns-in-130
returns-in-130 c = has_code GetMin c.in-130.is

pub returns-in-131 : goal.returns-in-131
returns-in-131 c = has_code GetMax c.in-131.is

pub returns-in-132 : goal.returns-in-132
returns-in-132 c = has_code GetRes c.in-132.is

pub returns-in-135 : goal.returns-in-135
returns-in-135 c = has_code GetDef c.in-135.is

pub returns-in-1 : goal.returns-in-1
returns-in-1 c = has_code SetCur c.in-1.is

pub returns-in_default : goal.returns-in_default
returns-in_default c = no-request _ (λ e. omega arith) (λ e. omega arith) (λ e. omega arith) (λ e. omega arith) (λ e. omega arith) (λ e. omega arith)
