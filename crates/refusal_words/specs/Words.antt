-- A refusal's number in plain words: what is wrong with the camera, or with the block.
use Rattle.std.specs.Prelude.{Bool, true, false, List, [], ◌∷◌, ◌++◌, ℕ, eqb}
use Prim.Native.String.{String}
use Rattle.text.specs.Text.{bytes}

-- a number, and its words
pub record Entry : Type 0 where
  pub number : ℕ
  pub words : String

abbrev pub says : ℕ → String → Entry
says n s = record { number = n; words = s }

-- THE TABLE
abbrev pub table : List Entry
table =
    says 1 "the control block has under 12 bytes" ∷
    says 2 "the control block has over 4,096 bytes" ∷
    says 3 "the control block does not start with a VideoControl header" ∷
    says 4 "the control header gives another total length than the block has" ∷
    says 5 "a control descriptor is shorter than 3 bytes or runs past the end" ∷
    says 6 "a control descriptor is not of type 0x24, or a second header comes" ∷
    says 7 "a control descriptor has not the length or the control size of its kind" ∷
    says 8 "the camera's revision is not 1.0, 1.1 or 1.5" ∷
    says 9 "a terminal or unit has ID 0" ∷
    says 10 "two terminals or units have the same ID" ∷
    says 11 "there are more than 32 terminals and units" ∷
    says 12 "a unit has no input pin or more than 16" ∷
    says 13 "a source names nothing" ∷
    says 14 "a source names an output terminal" ∷
    says 15 "a chain of sources returns to its start" ∷
    says 16 "no camera terminal or processing unit has this ID" ∷
    says 20 "the entity table says more than 32" ∷
    says 21 "the streaming block has under 13 bytes" ∷
    says 22 "the streaming block has over 16,384 bytes" ∷
    says 23 "the streaming block does not start with an input header" ∷
    says 24 "the input header gives another total length than the block has" ∷
    says 25 "a streaming descriptor is shorter than 3 bytes or runs past the end" ∷
    says 26 "a streaming descriptor is not of type 0x24, or another header comes" ∷
    says 27 "the camera has a format that is not read here" ∷
    says 28 "a streaming descriptor has not the length of its kind" ∷
    says 29 "the endpoint sends to the camera instead of from it" ∷
    says 30 "the link is to no output terminal for streaming" ∷
    says 31 "the formats are not numbered 1, 2, .. in order" ∷
    says 32 "a frame does not stand under a format of its kind" ∷
    says 33 "the frames of a format are not numbered 1, 2, .. in order" ∷
    says 34 "a frame's intervals are not sound, or its default is none of them" ∷
    says 35 "there are more than 8 formats or 64 frames" ∷
    says 36 "a format has not as many frames as it says" ∷
    says 37 "a format's default frame is none of its frames" ∷
    says 38 "the input header gives another number of formats" ∷
    says 39 "a frame's width, height, bits or buffer size cannot be true" ∷
    says 40 "a frame-based format's flag or its frame's bytes per line are wrong" ∷
    says 41 "the probe block has not its revision's number of bytes" ∷
    says 42 "the probe block asks for a format that the camera has not" ∷
    says 43 "the probe block asks for a frame that its format has not" ∷
    says 44 "the probe block asks for an interval that its frame does not offer" ∷
    says 45 "the frame size is 0 or over 16,777,216" ∷
    says 46 "the payload size is under 2 or over 65,536" ∷
    says 70 "the configuration's size, first descriptor or a descriptor is wrong" ∷
    says 71 "the configuration gives another total length than it has" ∷
    says 72 "there is no video control interface, or there are two" ∷
    says 73 "the control header names a streaming interface that is not there" ∷
    says 74 "no alternate setting holds this payload size" ∷
    says 75 "there are more than 8 streaming interfaces, or 32 settings of one" ∷
    says 80 "a frame has no bytes or over 16,777,216" ∷
    says 81 "the payload size leaves no room for data, or is over 65,536" ∷
    says 82 "there is room for fewer bytes than the next transfer has" ∷
    says 90 "no processing unit has this ID" ∷
    says 91 "the processing unit has no such control in its map" ∷
    says 92 "the minimum is above the maximum" ∷
    says 93 "the step is 0 or below" ∷
    says 94 "there is room for fewer than 8 bytes" ∷
    says 95 "the bytes are no setup packet for this camera and interface" ∷
    []

-- the words end their line; `more` is asked only where the number is another
abbrev pub words_by : Bool → String → (Unit {0} → List ℕ) → List ℕ
words_by true s more = bytes s ++ (10 ∷ [])
words_by false s more = more tt

abbrev pub words_in : List Entry → ℕ → List ℕ
words_in [] n = []
words_in (e ∷ es) n = words_by (eqb e.number n) e.words (λ u. words_in es n)

-- A NUMBER'S LINE OF WORDS; nothing of a number that is not in the table
unfoldable pub words_of : ℕ → List ℕ
words_of n = words_in table n
