use Rattle.std.proofs.Common.{lit<, refl}
use Rattle.std.specs.List.{Contains}
use Rattle.dcsctp_receive.specs.declared.rule.Rule.TheVariants as rule
use Rattle.dcsctp_receive.specs.declared.rule.TheConstants.Rule.{ALL}
use Rattle.dcsctp_receive.proofs.laws.every_rule.Goals as goal

pub returns : goal.returns
returns c = λ r.
    elim r as (λ r. Contains ALL r) [
      | rule.PortZero ↦ (0, lit< tt, refl)
      | rule.InitAlone ↦ (1, lit< tt, refl)
      | rule.InitTag ↦ (2, lit< tt, refl)
      | rule.TagZero ↦ (3, lit< tt, refl)
      | rule.InitiateTagZero ↦ (4, lit< tt, refl)
      | rule.NoStreams ↦ (5, lit< tt, refl)
      | rule.SmallWindow ↦ (6, lit< tt, refl)
      | rule.InitAckCookie ↦ (7, lit< tt, refl)
      | rule.HeartbeatInfo ↦ (8, lit< tt, refl)
      | rule.NoUserData ↦ (9, lit< tt, refl)
      | rule.DataBesideIdata ↦ (10, lit< tt, refl)
      | rule.GapBlocks ↦ (11, lit< tt, refl)
      | rule.ReservedBits ↦ (12, lit< tt, refl)
      | rule.ZeroChecksum ↦ (13, lit< tt, refl)
      | rule.CookieEchoFirst ↦ (14, lit< tt, refl)
      | rule.ControlFirst ↦ (15, lit< tt, refl)
      | rule.AfterAbort ↦ (16, lit< tt, refl)
      | rule.DataWithAbort ↦ (17, lit< tt, refl)
    ]
