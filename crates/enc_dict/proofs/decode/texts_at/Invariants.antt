use Rattle.std.proofs.Common.{take}
use Rattle.enc_dict.proofs.Different.{Using}
use Rattle.enc_dict.proofs.decode.texts_at.Given as goal

abbrev pub invariant-loop-place : goal.invariant-loop-place
invariant-loop-place l = Using l.texts (take l.place-index l.places) l.used l.values.items
