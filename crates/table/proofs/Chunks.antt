-- The records of a file, in its bytes cut into eights.
use Rattle.std.proofs.Common.{◌≡◌, ℕ, zero, suc, ◌<◌, List, get_or, drop, ◌∙◌, arith}
use Rattle.std.proofs.lemmas.Grind.{common_steps}
use Rattle.std.specs.Simd.{first_chunks}
use Rattle.table.specs.Layout.{record_at}

-- behind the first eight bytes, record i is record i + 1
later_record : (bs : List ℕ) (i : ℕ) → record_at (drop 8 bs) i ≡ record_at bs (suc i)
later_record bs i = grind (arith, common_steps)

-- the record in chunk i is record i
pub record_in_chunk : (bs : List ℕ) (k i : ℕ) (d : List ℕ) → i < k → record_at (get_or (first_chunks 8 k bs) i d) 0 ≡ record_at bs i
record_in_chunk bs zero i d h = absurd (omega arith)
record_in_chunk bs (suc k) zero d h = grind (arith, common_steps)
record_in_chunk bs (suc k) (suc i) d h = record_in_chunk (drop 8 bs) k i d (omega arith) ∙ later_record bs i
