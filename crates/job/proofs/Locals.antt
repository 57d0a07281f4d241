-- A signed number that a call gave is a local's bits, which are read back.
use Rattle.std.proofs.Common.{◌≡◌, ◌∙◌, ◌<◌, ℤ}
use lib.Signed.{mag}
use Rattle.geometry.specs.Signed.{back, half, home}

pub read_back : {z v : ℤ} → mag z < half → z ≡ v → back z ≡ v
read_back h e = home (record { sfits = h }) ∙ e
