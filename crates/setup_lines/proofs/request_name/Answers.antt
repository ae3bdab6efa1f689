use borrow.Author.Rules.{rules}
use Rattle.setup_lines.proofs.request_name.Goals as goal

pub returns-in-GetCur : goal.returns-in-GetCur
returns-in-GetCur c = record { put = rw c.in-GetCur.is c.put.ensures; upper_bound = search rules }

pub returns-in-GetMin : goal.returns-in-GetMin
returns-in-GetMin c = record { put = rw c.in-GetMin.is c.put-in-GetMin.ensures; upper_bound = search rules }

pub returns-in-GetMax : goal.returns-in-GetMax
returns-in-GetMax c = record { put = rw c.in-GetMax.is c.put-in-GetMax.ensures; upper_bound = search rules }

pub returns-in-GetRes : goal.returns-in-GetRes
returns-in-GetRes c = record { put = rw c.in-GetRes.is c.put-in-GetRes.ensures; upper_bound = search rules }

pub returns-in-GetDef : goal.returns-in-GetDef
returns-in-GetDef c = record { put = rw c.in-GetDef.is c.put-in-GetDef.ensures; upper_bound = search rules }

pub returns-in-SetCur : goal.returns-in-SetCur
returns-in-SetCur c = record { put = rw c.in-SetCur.is c.put-in-SetCur.ensures; upper_bound = search rules }
