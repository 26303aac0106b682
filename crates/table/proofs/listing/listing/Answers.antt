use Rattle.std.proofs.Common.{◌≡◌, vec_items, string_bytes, rules}
use Rattle.std.proofs.lemmas.Result.{IfOk-weaker}
use Rattle.table.specs.Listing.{listing}
use Rattle.table.proofs.Tellings.{tells}
use Rattle.table.proofs.listing.listing.Goals as goal

pub returns-in-Ok : goal.returns-in-Ok
returns-in-Ok c = IfOk-weaker _ (λ s. string_bytes s ≡ listing (vec_items c.args.file)) _ (λ s e. tells _ (string_bytes s) e) (search rules)

pub returns-in-Err : goal.returns-in-Err
returns-in-Err c = IfOk-weaker _ (λ s. string_bytes s ≡ listing (vec_items c.args.file)) _ (λ s e. tells _ (string_bytes s) e) (search rules)
