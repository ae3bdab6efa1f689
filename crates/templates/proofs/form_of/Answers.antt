use Rattle.rules.specs.IfElse.{if_elses}
use Rattle.templates.specs.Values.{form_of}
use Rattle.templates.proofs.form_of.Goals as goal

pub returns-then-c-eq100 : goal.returns-then-c-eq100
unfolding form_of
returns-then-c-eq100 c = search if_elses depth 12

pub returns-then-c-eq119 : goal.returns-then-c-eq119
unfolding form_of
returns-then-c-eq119 c = search if_elses depth 12

pub returns-then-c-eq108 : goal.returns-then-c-eq108
unfolding form_of
returns-then-c-eq108 c = search if_elses depth 12

pub returns-then-c-eq112 : goal.returns-then-c-eq112
unfolding form_of
returns-then-c-eq112 c = search if_elses depth 12

pub returns-then-c-eq104 : goal.returns-then-c-eq104
unfolding form_of
returns-then-c-eq104 c = search if_elses depth 12

pub returns-then-c-eq102 : goal.returns-then-c-eq102
unfolding form_of
returns-then-c-eq102 c = search if_elses depth 12

pub returns : goal.returns
unfolding form_of
returns c = search if_elses depth 12
