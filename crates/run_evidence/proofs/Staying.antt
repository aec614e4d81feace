-- The laws on what stays, under the names by which their functions cite them.
use Rattle.run_evidence.specs.Stays.{JustifiedStays, AllowedStays}
use Rattle.run_evidence.proofs.Stable.{allowed-weaken}
use Rattle.run_evidence.proofs.Growing.{justified_later}

pub justified_stays : JustifiedStays
justified_stays = justified_later

pub allowed_stays : AllowedStays
allowed_stays = allowed-weaken
