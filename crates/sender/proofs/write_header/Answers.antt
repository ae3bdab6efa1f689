use Rattle.sender.proofs.write_header.Goals as goal

pub returns-in-None : goal.returns-in-None
returns-in-None c = rw (c.copy_from_slice.ensures.after, c.short_header-header.ensures, c.in-None.is)

pub returns-in-Some : goal.returns-in-Some
returns-in-Some c = rw (c.copy_from_slice-in-Some.ensures.after, c.long_header-header.ensures, c.in-Some.is)
