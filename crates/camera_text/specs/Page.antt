-- WHAT IS PRINTED OF A CAMERA: what stands in front; then, of a configuration that is accepted, the text of each descriptor, in order of appearance.
use Rattle.rules.specs.Verdicts.{Verdict}
use Rattle.std.specs.Prelude.{ℕ, zero, suc, Bool, true, false, List, [], ◌++◌, eqb, ltb, length, take, drop, Err, Ok}
use Rattle.rules.specs.IfElse.{if_else}
use Rattle.text.specs.Text.{bytes}
use Rattle.templates.specs.Template.{rendered}
use Rattle.device_file.specs.Place.{is_device, place_in}
use Rattle.configuration_rules.specs.Descriptors.{after_at}
use Rattle.block_text.specs.Answers.{refused_text}
use Rattle.camera_lines.specs.Parts.{part_after}
use Rattle.camera_lines.specs.Lines.{text_at}
use Rattle.camera_lines.specs.declared.Part.{Part}
use Rattle.camera_lines.specs.declared.Part.TheVariants.{Other}

-- the vendor's and the product's number of a device
abbrev pub device_text : List ℕ → Bool → List ℕ
device_text file true = rendered file 0 0 (bytes "Device %h09%h08:%h11%h10\n")
device_text file false = []

-- something stands behind the first configuration
unfoldable pub behind_text : ℕ → List ℕ
behind_text n = if_else (eqb n 0) [] (bytes "further configurations follow, and only the first is read\n")

-- a refusal: the rule's number and the place in the configuration; below, what is wrong
abbrev pub refusal_text : Verdict → List ℕ
refusal_text (Ok _) = []
refusal_text (Err r) = refused_text r.number r.offset

abbrev pub head_text : List ℕ → Verdict → List ℕ
head_text file v = device_text file (is_device file) ++ (behind_text (place_in file).behind ++ refusal_text v)

-- the descriptor at o of the configuration s, and what comes next; nothing from the end on
unfoldable pub text_from : List ℕ → ℕ → Part → List ℕ
text_from s o part = if_else (ltb o (length s)) (text_at s o part) []

unfoldable pub next_from : List ℕ → ℕ → ℕ
next_from s o = if_else (ltb o (length s)) (after_at s o) (length s)

unfoldable pub part_from : List ℕ → ℕ → Part → Part
part_from s o part = if_else (ltb o (length s)) (part_after s o part) part

-- at most so many descriptors, from o on
unfoldable pub body_from : ℕ → List ℕ → ℕ → Part → List ℕ
body_from zero s o part = []
body_from (suc n) s o part = text_from s o part ++ body_from n s (next_from s o) (part_from s o part)

-- the configuration of a file
abbrev pub configuration_in : List ℕ → List ℕ
configuration_in file = take (place_in file).length (drop (place_in file).offset file)

-- a configuration has no more descriptors than bytes
abbrev pub body_by : Verdict → List ℕ → List ℕ
body_by (Ok _) s = body_from (length s) s 0 Other
body_by (Err r) s = []

-- THE PAGE, of a file and of the verdict on its configuration
abbrev pub page_text : List ℕ → Verdict → List ℕ
page_text file v = head_text file v ++ body_by v (configuration_in file)
