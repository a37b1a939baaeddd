use Rattle.std.proofs.Common.{None, Some, refl, subst, sym}
use Rattle.tsdb_outside.specs.Moments.{other}
use Rattle.tsdb_outside.specs.declared.disk.Slot.{Slot}
use Rattle.tsdb_frames.specs.Asides.{IsAsideOn}
use Rattle.tsdb_frames.specs.Log.{IsLogOn}
use Rattle.tsdb_frames.specs.Slots.{payloads_of}
use Rattle.tsdb_frames.specs.declared.aside.Aside.TheVariants.{Settled}
use Rattle.tsdb_frames.proofs.AsideLemmas.{records_scanned, scanned}
use Rattle.tsdb_frames.proofs.ScanLemmas.{whole_log}
use Rattle.tsdb_frames.proofs.frames.Frames.of_reader.Goals as goal

pub returns : goal.returns
returns g c = λ journal place frames whole.
    let reader = c.args.reader in
    let old = g.J.Disk.state journal in
    let new = g.J.Disk.state reader.journal in
    let keeps = whole.reading.keeps in
    let laws = g.J.Disk.lawful journal in
    let laws_now = g.J.Disk.lawful reader.journal in
    record {
      records = whole.records;
      places = whole.reading.front.places;
      log = λ settled. whole_log place (payloads_of frames) reader.at whole.reading.front.place old new keeps settled old.seen refl
          whole.records _ (λ stands. record {
            stands = subst (λ (s : Slot). IsLogOn new s reader.at (payloads_of frames) None) (sym whole.reading.slot) stands;
            doubt = refl;
            first = whole.reading.first;
          });
      no_doubt = refl;
      slot = whole.reading.slot;
      aside = λ settled. scanned (other place) old new laws laws_now keeps settled old.seen refl _ (λ told stands. record {
        told = told;
        stands = subst (λ (s : Slot). IsAsideOn new (other s) Settled None) (sym whole.reading.slot) stands;
      });
      aside_records = λ settled. records_scanned (other place) old new laws laws_now keeps settled old.seen refl _ (λ payloads told stands. record {
        told = told;
        stands = subst (λ (s : Slot). IsAsideOn new (other s) Settled (Some payloads)) (sym whole.reading.slot) stands;
      });
      keeps = keeps;
      later = whole.reading.later;
    }
