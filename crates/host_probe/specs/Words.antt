-- A probe block's fields as 29 words of 32 bits, in the order of the block; the eight bytes of the layout are a word each.
use Rattle.std.specs.Prelude.{ℕ, ◌%◌, List, [], ◌∷◌, Bool, not, get_or, eqb}
use Rattle.rules.specs.Place.{first_place}
use Rattle.probe.specs.Fields.{bytes_at}
use Rattle.probe.specs.declared.Probe.{Probe}

abbrev pub word_count : ℕ
word_count = 29

-- the words of the fields
abbrev pub words_of : Probe → List ℕ
words_of p =
    p.hint ∷
    p.format ∷
    p.frame ∷
    p.interval ∷
    p.key_rate ∷
    p.p_rate ∷
    p.quality ∷
    p.window ∷
    p.delay ∷
    p.frame_size ∷
    p.payload_size ∷
    p.clock ∷
    p.framing ∷
    p.preferred ∷
    p.minimum ∷
    p.maximum ∷
    p.usage ∷
    p.luma_depth ∷
    p.settings ∷
    p.reference_frames ∷
    p.rate_modes ∷
    bytes_at p.layout 0 8

-- the fields that words are, each in its width
abbrev pub layout_in : List ℕ → List ℕ
layout_in w =
    get_or w 21 0 % 256 ∷
    get_or w 22 0 % 256 ∷
    get_or w 23 0 % 256 ∷
    get_or w 24 0 % 256 ∷
    get_or w 25 0 % 256 ∷
    get_or w 26 0 % 256 ∷
    get_or w 27 0 % 256 ∷
    get_or w 28 0 % 256 ∷
    []

abbrev pub fields_in : List ℕ → Probe
fields_in w =
    record {
      hint = get_or w 0 0 % 65536;
      format = get_or w 1 0 % 256;
      frame = get_or w 2 0 % 256;
      interval = get_or w 3 0;
      key_rate = get_or w 4 0 % 65536;
      p_rate = get_or w 5 0 % 65536;
      quality = get_or w 6 0 % 65536;
      window = get_or w 7 0 % 65536;
      delay = get_or w 8 0 % 65536;
      frame_size = get_or w 9 0;
      payload_size = get_or w 10 0;
      clock = get_or w 11 0;
      framing = get_or w 12 0 % 256;
      preferred = get_or w 13 0 % 256;
      minimum = get_or w 14 0 % 256;
      maximum = get_or w 15 0 % 256;
      usage = get_or w 16 0 % 256;
      luma_depth = get_or w 17 0 % 256;
      settings = get_or w 18 0 % 256;
      reference_frames = get_or w 19 0 % 256;
      rate_modes = get_or w 20 0 % 65536;
      layout = layout_in w;
    }

-- the words at a place are not the same
abbrev pub differs : List ℕ → List ℕ → ℕ → Bool
differs w l i = not (eqb (get_or w i 0) (get_or l i 0))

-- the first word that is over its field's width: laid out again, the field is another number; 29 where none is
abbrev pub wide_at : List ℕ → ℕ
wide_at w = first_place (differs w (words_of (fields_in w))) word_count
