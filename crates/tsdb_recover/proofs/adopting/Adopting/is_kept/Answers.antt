use Rattle.std.proofs.Common.{rules}
use Rattle.std.specs.Prelude.{◌↔◌, IsSome, IsTrue}
use Rattle.tsdb_recover.proofs.Counting.{kept_where_listed}
use Rattle.tsdb_recover.specs.Adopting.{adopting_files}
use Rattle.tsdb_fileset.specs.Files.{kept_file}
use Rattle.tsdb_recover.proofs.adopting.Adopting.is_kept.Goals as goal

pub returns-clause-listed : goal.returns-clause-listed
returns-clause-listed g c = λ recorded is all.
    let same : IsTrue c.is_some.result ↔ IsSome (kept_file c.args.number.0 (adopting_files c.args.self.now)) = search rules in
    let there = kept_where_listed (adopting_files c.args.self.now) recorded.store c.args.number.0 c.sound.ensures.kept
    is.first all in
    (λ kept. there.0 (same.0 kept), λ among. same.1 (there.1 among))
