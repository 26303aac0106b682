-- The rules of a table file, and which of them is the first that a file breaks.
use Rattle.std.specs.Prelude.{◌≡◌, ℕ, ◌*◌, ◌/◌, ◌%◌, ◌<◌, ◌≤◌, ◌⊎◌, List, length}
use Rattle.model.specs.Meaning.{most_settings, highest_mark}
use Rattle.table.specs.Layout.{record_bytes, record_at, count, last, states, settings}

-- there are records, and each is whole
abbrev pub WholeRecords : List ℕ → Type 0
WholeRecords bs = (0 < length bs) × (length bs % record_bytes ≡ 0)

-- the last setting is below 16, and there is one record for each state and setting
abbrev pub Complete : List ℕ → Type 0
Complete bs = ((record_at bs (last bs)).setting < most_settings) × (count bs ≡ states bs * settings bs)

-- record i belongs to state i / K and setting i mod K
abbrev pub InOrder : List ℕ → ℕ → Type 0
InOrder bs i = ((record_at bs i).state ≡ i / settings bs) × ((record_at bs i).setting ≡ i % settings bs)

-- its next state is known
abbrev pub NextKnown : List ℕ → ℕ → Type 0
NextKnown bs i = (record_at bs i).next < states bs

-- its mark is at most 1,000
abbrev pub MarkInRange : List ℕ → ℕ → Type 0
MarkInRange bs i = (record_at bs i).mark ≤ highest_mark

-- what a record has to obey
abbrev pub SoundRecord : List ℕ → ℕ → Type 0
SoundRecord bs i = InOrder bs i × NextKnown bs i × MarkInRange bs i

-- what a file has to obey
pub record ObeysRules (bs : List ℕ) : Type 0 where
  pub whole_records : WholeRecords bs
  pub complete : Complete bs
  pub sound_records : (i : ℕ) → i < count bs → SoundRecord bs i

-- the first rule that record i breaks is the one of refusal n
abbrev pub RecordBreaks : List ℕ → ℕ → ℕ → Type 0
RecordBreaks bs n i =
    ((n ≡ 5) × (InOrder bs i → ⊥))
    ⊎ (((n ≡ 6) × InOrder bs i × (NextKnown bs i → ⊥))
    ⊎ ((n ≡ 7) × InOrder bs i × NextKnown bs i × (MarkInRange bs i → ⊥)))

-- the first rule that the file breaks is the one of refusal n, which is given with v
abbrev pub FirstBroken : List ℕ → ℕ → ℕ → Type 0
FirstBroken bs n v =
    ((n ≡ 3) × (v ≡ length bs) × (WholeRecords bs → ⊥))
    ⊎ (((n ≡ 4) × (v ≡ last bs) × WholeRecords bs × (Complete bs → ⊥))
    ⊎ (WholeRecords bs × Complete bs × (v < count bs) × ((i : ℕ) → i < v → SoundRecord bs i) × RecordBreaks bs n v))
