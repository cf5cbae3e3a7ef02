-- The lines of damaged slots, and the line of an input that isn't a region.
use Rattle.std.specs.Prelude.{ℕ, List, [], ◌∷◌, ◌++◌, codes, flat_map, Option, None, Some}
use Rattle.std.specs.Fmt.{decimal}
use Rattle.text_model.specs.Text.{line_feed}
use Rattle.capture_text.specs.declared.form.Form.{Form}
use Rattle.capture_text.specs.declared.form.Form.TheVariants.{Text, Json}
use Rattle.record_words.specs.declared.next.WordFault.{WordFault}
use Rattle.record_words.specs.declared.next.WordFault.TheVariants as words
use Rattle.fleet_text.specs.Printing.{cpu_text, json_cpu}
use Rattle.ring_region.specs.Headers.{fault_at}
use Rattle.ring_region.specs.declared.headers.Header.{Header}
use Rattle.ring_region.specs.declared.faults.RegionFault.{RegionFault}
use Rattle.ring_region.specs.declared.faults.RegionFault.TheVariants as regions
use Rattle.ring_region.specs.declared.faults.SlotCause.{SlotCause}
use Rattle.ring_region.specs.declared.faults.SlotCause.TheVariants as slots
use Rattle.ring_region.specs.declared.faults.Damaged.{Damaged}
use Rattle.ring_region.specs.declared.regions.Region.{Region}

-- ---- damaged slots

-- what is wrong with a slot; a word's place is that of the line
abbrev pub word_fault_name : WordFault → List ℕ
word_fault_name (words.Cut at) = codes "Cut"
word_fault_name (words.BadLength at) = codes "BadLength"
word_fault_name (words.TimeOverflow at) = codes "TimeOverflow"

abbrev pub cause_name : SlotCause → List ℕ
cause_name slots.OtherCpu = codes "OtherCpu"
cause_name slots.Missed = codes "Missed"
cause_name slots.BadCommit = codes "BadCommit"
cause_name (slots.Word fault) = word_fault_name fault
cause_name slots.NumberOverflow = codes "NumberOverflow"
cause_name slots.SameFill = codes "SameFill"
cause_name slots.Overlap = codes "Overlap"

abbrev pub damaged_line : Form → Header → Damaged → List ℕ
damaged_line Text header damaged =
    codes "damaged " ++ cpu_text header.stream.0 header.cpu.0 ++ codes " slot " ++ decimal damaged.slot
    ++ codes " byte " ++ decimal damaged.at ++ codes ": " ++ cause_name damaged.cause ++ line_feed ∷ []
damaged_line Json header damaged =
    codes "{" ++ json_cpu header.stream.0 header.cpu.0 ++ codes ",\"damaged\":" ++ decimal damaged.slot
    ++ codes ",\"byte\":" ++ decimal damaged.at ++ codes ",\"fault\":\"" ++ cause_name damaged.cause ++ codes "\"}"
    ++ line_feed ∷ []

-- the lines of a region's damaged slots, and those of all regions
abbrev pub damaged_in : Form → Region → List ℕ
damaged_in form region = flat_map (damaged_line form region.header) region.damaged.items

abbrev pub damaged_lines : Form → List Region → List ℕ
damaged_lines form regions = flat_map (damaged_in form) regions

-- ---- what is no region

abbrev pub region_fault_name : RegionFault → List ℕ
region_fault_name regions.TooShort = codes "TooShort"
region_fault_name regions.NotARegion = codes "NotARegion"
region_fault_name regions.BadVersion = codes "BadVersion"
region_fault_name regions.BadPages = codes "BadPages"
region_fault_name regions.BadSize = codes "BadSize"
region_fault_name regions.BadCpu = codes "BadCpu"
region_fault_name regions.BadEnd = codes "BadEnd"
region_fault_name regions.NoMemory = codes "NoMemory"

-- where it is, if it is somewhere
abbrev pub place_text : Option ℕ → List ℕ
place_text None = []
place_text (Some at) = codes " at " ++ decimal at

abbrev pub region_line : RegionFault → List ℕ
region_line fault =
    codes "region: " ++ region_fault_name fault ++ place_text (fault_at fault) ++ line_feed ∷ []
