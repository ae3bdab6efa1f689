-- What is printed of a whole answer: its lines; or the refusal's line, and its number in plain words.
use Rattle.rules.specs.Verdicts.{Verdict}
use Rattle.std.specs.Prelude.{Bool, true, false, List, [], ◌∷◌, ◌++◌, ℕ, ◌*◌, take, Err, Ok}
use Rattle.entities.specs.declared.Table.{Table}
use Rattle.entities.specs.Table.{used}
use Rattle.control.specs.declared.Control.{Control}
use Rattle.control_map.specs.declared.Map.{Map}
use Rattle.streaming.specs.declared.Streaming.{Streaming}
use Rattle.probe.specs.declared.Probe.{Probe}
use Rattle.text.specs.Text.{bytes, line, texts, line_most}
use Rattle.block_lines.specs.Lines.{entity_line, format_line, frame_line, controls_line, revision_line, refused_line, accepted_line}
use Rattle.probe_lines.specs.Fields.{fields_text}
use Rattle.refusal_words.specs.Words.{words_of}

-- whether an answer is one, and no refusal: what the status tells
abbrev pub is_accepted : Verdict → Bool
is_accepted (Ok _) = true
is_accepted (Err r) = false

abbrev pub is_given : Map → Bool
is_given m = is_accepted m.verdict

-- the rule's number and the place that breaks it; below, what is wrong. (A number that is not in the table of words has no second line)
abbrev pub refused_text : ℕ → ℕ → List ℕ
refused_text k o = refused_line k o ++ words_of k

-- the text of what was accepted, or the refusal
abbrev pub told_by : Verdict → List ℕ → List ℕ
told_by (Ok _) t = t
told_by (Err r) t = refused_text r.number r.offset

-- the revision, the clock frequency, and the used places of the entity table
abbrev pub table_text : Table → List ℕ
table_text t = accepted_line ++ (revision_line t.revision ++ (line (bytes "clock") (t.clock ∷ []) ++ texts entity_line (used t)))

abbrev pub control_by : Verdict → Table → List ℕ
control_by v t = told_by v (table_text t)

abbrev pub control_text : Control → List ℕ
control_text c = control_by c.verdict c.table

-- as many controls as there are
abbrev pub map_by : Verdict → Map → List ℕ
map_by v m = told_by v (controls_line m.length m.bytes)

abbrev pub map_text : Map → List ℕ
map_text m = map_by m.verdict m

-- the endpoint, the link, the used formats, the used frames
abbrev pub listed_text : Streaming → List ℕ
listed_text s =
    accepted_line ++ (line (bytes "endpoint") (s.endpoint ∷ []) ++ (line (bytes "link") (s.link ∷ [])
    ++ (texts format_line (take s.format_count s.formats) ++ texts frame_line (take s.frame_count s.frames))))

abbrev pub streaming_by : Verdict → Streaming → List ℕ
streaming_by v s = told_by v (listed_text s)

abbrev pub streaming_text : Streaming → List ℕ
streaming_text s = streaming_by s.verdict s

-- the verdict of the check, and the fields
abbrev pub probe_text : Verdict → Probe → List ℕ
probe_text v p = told_by v (accepted_line ++ fields_text p)

-- enough for any answer: the most lines are those of a streaming block, three and eight formats and 64 frames
abbrev pub room : ℕ
room = line_most * 75
