-- BLOCKS THAT PRINT ALIKE ARE ALIKE: the same verdict and, where accepted, the same of all that is printed.
use Rattle.std.specs.Prelude.{Err, Ok}
use Rattle.rules.specs.Verdicts.{Verdict, accept}
use mathlib.Core.Path.{◌≡◌, refl, sym, ap, ◌∙◌}
use mathlib.Core.List.{List, [], ◌∷◌, ◌++◌, append_assoc, append-nil, append_cancel_left}
use Prim.Native.Nat.{ℕ}
use native.Mathlib.Omega.{arith}
use lib.ListN.{length, take, get_or}
use Rattle.rules.proofs.Verdicts.{apart}
use Rattle.entities.specs.declared.Entity.{Entity}
use Rattle.entities.specs.declared.Table.{Table}
use Rattle.entities.specs.Table.{used}
use Rattle.entities.specs.declared.Revision.{Revision}
use Rattle.entities.specs.declared.Revision.TheVariants.{R10, R11, R15}
use Rattle.control_map.specs.declared.Map.{Map}
use Rattle.streaming_descriptors.specs.declared.Format.{Format}
use Rattle.streaming_descriptors.specs.declared.Frame.{Frame}
use Rattle.streaming.specs.declared.Streaming.{Streaming}
use Rattle.probe.specs.declared.Probe.{Probe}
use Rattle.text.specs.Text.{bytes, number, numbers, line, texts}
use Rattle.text.proofs.Different.{Low, number-split, line-split, texts-different}
use Rattle.refusal_words.specs.Words.{words_of}
use Rattle.block_lines.specs.Lines.{entity_line, format_line, frame_line, controls_line, revision_line, accepted_line}
use Rattle.probe_lines.specs.Fields.{fields_text}
use Rattle.block_lines.proofs.Different.{entity-split, format-split, frame-split}
use Rattle.probe_lines.proofs.Different.{fields-different}
use Rattle.block_text.specs.Answers.{refused_text, told_by, table_text, control_by, map_by, listed_text, streaming_by, probe_text}

abbrev pub first : List ℕ → ℕ
first l = get_or l 0 0

-- the last digit of a revision's line
abbrev digit : List ℕ → ℕ
digit l = get_or l 11 0

-- ---- a refusal's text tells its number and its offset
pub refused-split : (j l n m : ℕ) → refused_text j n ≡ refused_text l m → (j ≡ l) × (n ≡ m)
refused-split j l n m e =
    let s : List ℕ = line (bytes " at") (n ∷ []) in
    let t : List ℕ = line (bytes " at") (m ∷ []) in
    let r : number j ++ (s ++ words_of j) ≡ number l ++ (t ++ words_of l)
    = sym (append_assoc (number j) s (words_of j)) ∙ (append_cancel_left (bytes "refused") ((number j ++ s) ++ words_of j) ((number l ++ t) ++ words_of l) e ∙ append_assoc (number l) t (words_of l)) in
    let k : (j ≡ l) × (s ++ words_of j ≡ t ++ words_of l) = number-split j l (s ++ words_of j) (t ++ words_of l) (omega arith) (omega arith) r in
    let w : ((n ∷ []) ≡ (m ∷ [])) × (words_of j ≡ words_of l) = line-split (bytes " at") (n ∷ []) (m ∷ []) (words_of j) (words_of l) refl k.1 in
    (k.0, ap first w.0)

-- an accepted text begins otherwise than a refusal, which begins with r
pub told-different : (x : ℕ) (v w : Verdict) (a b : List ℕ) → (x ≡ 114 → ⊥) → first a ≡ x → first b ≡ x → told_by v a ≡ told_by w b → (v ≡ w) × (v ≡ accept → a ≡ b)
told-different x (Ok _) (Ok _) a b n h k e = (refl, λ p. e)
told-different x (Ok _) (Err r) a b n h k e = absurd (n (sym h ∙ ap first e))
told-different x (Err r) (Ok _) a b n h k e = absurd (n (sym (ap first e ∙ k)))
told-different x (Err r) (Err q) a b n h k e = let s = refused-split r.number q.number r.offset q.offset e in (rw (s.0, s.1), λ p. absurd (apart r.number r.offset p))

-- ---- A CONTROL BLOCK
-- a revision's line tells it
revision-split : (v w : Revision) (s t : List ℕ) → revision_line v ++ s ≡ revision_line w ++ t → (v ≡ w) × (s ≡ t)
revision-split R10 R10 s t e = (refl, append_cancel_left (revision_line R10) s t e)
revision-split R10 R11 s t e = let z : ◌≡◌ {A = ℕ} 48 49 = ap digit e in absurd (omega arith)
revision-split R10 R15 s t e = let z : ◌≡◌ {A = ℕ} 48 53 = ap digit e in absurd (omega arith)
revision-split R11 R10 s t e = let z : ◌≡◌ {A = ℕ} 49 48 = ap digit e in absurd (omega arith)
revision-split R11 R11 s t e = (refl, append_cancel_left (revision_line R11) s t e)
revision-split R11 R15 s t e = let z : ◌≡◌ {A = ℕ} 49 53 = ap digit e in absurd (omega arith)
revision-split R15 R10 s t e = let z : ◌≡◌ {A = ℕ} 53 48 = ap digit e in absurd (omega arith)
revision-split R15 R11 s t e = let z : ◌≡◌ {A = ℕ} 53 49 = ap digit e in absurd (omega arith)
revision-split R15 R15 s t e = (refl, append_cancel_left (revision_line R15) s t e)

-- what an accepted control block shows
pub record SameTable (t u : Table) : Type 0 where
  pub revision : t.revision ≡ u.revision
  pub clock : t.clock ≡ u.clock
  pub entities : used t ≡ used u

abbrev clocked : Table → List ℕ
clocked t = line (bytes "clock") (t.clock ∷ []) ++ texts entity_line (used t)

table-different : (t u : Table) → table_text t ≡ table_text u → SameTable t u
table-different t u e =
    let a = revision-split t.revision u.revision (clocked t) (clocked u) (append_cancel_left accepted_line (revision_line t.revision ++ clocked t) (revision_line u.revision ++ clocked u) e) in
    let c = line-split (bytes "clock") (t.clock ∷ []) (u.clock ∷ []) (texts entity_line (used t)) (texts entity_line (used u)) refl a.1 in
    let ends : (x : Entity) (v : List ℕ) → entity_line x ++ v ≡ [] → ⊥ = λ x v q. let z : ◌≡◌ {A = ℕ} 101 0 = ap first q in omega arith in
    let l = texts-different entity_line entity-split (used t) (used u) [] [] ends ends (ap (λ (r : List ℕ). r ++ []) c.1) in
    record { revision = a.0; clock = ap first c.0; entities = l.0 }

pub control-different : (v w : Verdict) (t u : Table) → control_by v t ≡ control_by w u → (v ≡ w) × (v ≡ accept → SameTable t u)
control-different v w t u e =
    let h = told-different 97 v w (table_text t) (table_text u) (λ z. omega arith) refl refl e in
    (h.0, λ p. table-different t u (h.1 p))

-- ---- A UNIT'S CONTROLS: as many as there are
abbrev pub controls_of : Map → List ℕ
controls_of m = take m.length m.bytes

low-numbers : (l r : List ℕ) → Low (numbers l ++ (10 ∷ r))
low-numbers [] r = omega arith
low-numbers (x ∷ l) r = omega arith

numbers-different : (l m : List ℕ) → numbers l ++ (10 ∷ []) ≡ numbers m ++ (10 ∷ []) → l ≡ m
numbers-different [] [] e = refl
numbers-different [] (y ∷ m) e = let z : ◌≡◌ {A = ℕ} 10 32 = ap first e in absurd (omega arith)
numbers-different (x ∷ l) [] e = let z : ◌≡◌ {A = ℕ} 32 10 = ap first e in absurd (omega arith)
numbers-different (x ∷ l) (y ∷ m) e =
    let r : number x ++ (numbers l ++ (10 ∷ [])) ≡ number y ++ (numbers m ++ (10 ∷ [])) = sym (append_assoc (number x) (numbers l) (10 ∷ [])) ∙ (e ∙ append_assoc (number y) (numbers m) (10 ∷ [])) in
    let k = number-split x y (numbers l ++ (10 ∷ [])) (numbers m ++ (10 ∷ [])) (low-numbers l []) (low-numbers m []) r in
    rw (k.0, numbers-different l m k.1)

controls-different : (m n : Map) → controls_line m.length m.bytes ≡ controls_line n.length n.bytes → controls_of m ≡ controls_of n
controls-different m n e = numbers-different (controls_of m) (controls_of n) (append_cancel_left (bytes "controls") (numbers (controls_of m) ++ (10 ∷ [])) (numbers (controls_of n) ++ (10 ∷ [])) e)

pub map-different : (v w : Verdict) (m n : Map) → map_by v m ≡ map_by w n → (v ≡ w) × (v ≡ accept → controls_of m ≡ controls_of n)
map-different v w m n e =
    let h = told-different 99 v w (controls_line m.length m.bytes) (controls_line n.length n.bytes) (λ z. omega arith) refl refl e in
    (h.0, λ p. controls-different m n (h.1 p))

-- ---- A STREAMING BLOCK
abbrev pub formats_of : Streaming → List Format
formats_of s = take s.format_count s.formats

abbrev pub frames_of : Streaming → List Frame
frames_of s = take s.frame_count s.frames

-- what an accepted streaming block shows
pub record SameListing (s t : Streaming) : Type 0 where
  pub endpoint : s.endpoint ≡ t.endpoint
  pub link : s.link ≡ t.link
  pub formats : formats_of s ≡ formats_of t
  pub frames : frames_of s ≡ frames_of t

-- a format's line does not begin as a frame's does, nor is there one in nothing
no-format : (l : List Frame) (x : Format) (u : List ℕ) → format_line x ++ u ≡ texts frame_line l ++ [] → ⊥
no-format [] x u e = let z : ◌≡◌ {A = ℕ} 102 0 = ap first e in omega arith
no-format (f ∷ l) x u e = let z : ◌≡◌ {A = ℕ} 111 114 = ap (λ (r : List ℕ). get_or r 1 0) e in omega arith

no-frame : (x : Frame) (u : List ℕ) → frame_line x ++ u ≡ [] → ⊥
no-frame x u e = let z : ◌≡◌ {A = ℕ} 102 0 = ap first e in omega arith

listed-different : (s t : Streaming) → listed_text s ≡ listed_text t → SameListing s t
listed-different s t e =
    let fs = texts format_line (formats_of s) ++ texts frame_line (frames_of s) in
    let ft = texts format_line (formats_of t) ++ texts frame_line (frames_of t) in
    let ls = line (bytes "link") (s.link ∷ []) ++ fs in
    let lt = line (bytes "link") (t.link ∷ []) ++ ft in
    let a : line (bytes "endpoint") (s.endpoint ∷ []) ++ ls ≡ line (bytes "endpoint") (t.endpoint ∷ []) ++ lt
    = append_cancel_left accepted_line (line (bytes "endpoint") (s.endpoint ∷ []) ++ ls) (line (bytes "endpoint") (t.endpoint ∷ []) ++ lt) e in
    let b = line-split (bytes "endpoint") (s.endpoint ∷ []) (t.endpoint ∷ []) ls lt refl a in
    let c = line-split (bytes "link") (s.link ∷ []) (t.link ∷ []) fs ft refl b.1 in
    let d : texts format_line (formats_of s) ++ (texts frame_line (frames_of s) ++ []) ≡ texts format_line (formats_of t) ++ (texts frame_line (frames_of t) ++ [])
    = rw (append-nil (texts frame_line (frames_of s)), append-nil (texts frame_line (frames_of t))) c.1 in
    let g = texts-different format_line format-split (formats_of s) (formats_of t) (texts frame_line (frames_of s) ++ []) (texts frame_line (frames_of t) ++ []) (no-format (frames_of s)) (no-format (frames_of t)) d in
    let h = texts-different frame_line frame-split (frames_of s) (frames_of t) [] [] no-frame no-frame g.1 in
    record { endpoint = ap first b.0; link = ap first c.0; formats = g.0; frames = h.0 }

pub streaming-different : (v w : Verdict) (s t : Streaming) → streaming_by v s ≡ streaming_by w t → (v ≡ w) × (v ≡ accept → SameListing s t)
streaming-different v w s t e =
    let h = told-different 97 v w (listed_text s) (listed_text t) (λ z. omega arith) refl refl e in
    (h.0, λ p. listed-different s t (h.1 p))

-- ---- A PROBE BLOCK: its layout has eight numbers
pub probe-different : (v w : Verdict) (p q : Probe) → length p.layout ≡ 8 → length q.layout ≡ 8 → probe_text v p ≡ probe_text w q → (v ≡ w) × (v ≡ accept → p ≡ q)
probe-different v w p q h k e =
    let t = told-different 97 v w (accepted_line ++ fields_text p) (accepted_line ++ fields_text q) (λ z. omega arith) refl refl e in
    (t.0, λ a. fields-different p q h k (append_cancel_left accepted_line (fields_text p) (fields_text q) (t.1 a)))
