-- What the worked scripts come to, by computing.
use Rattle.std.proofs.Common.{◌≡◌, [], ◌∷◌, ◌++◌, codes, refl}
use Rattle.frame_wire.specs.Fields.{u32_bytes}
use Rattle.epoch_coordinator.specs.Scripts.{first_trio, played, prints, ends_of, commit_ends, common, common_mail, older_epoch, older_epoch_mail, then_fifth, fifth_mail, late_member, late_member_mail, late_messages, m}

pub older_epoch_is : prints (played older_epoch (played common first_trio)) ≡ common_mail ++ older_epoch_mail
unfolding u32_bytes
older_epoch_is = refl

pub older_epoch_not_counted_is : commit_ends (played older_epoch (played common first_trio)) ≡ 0 ∷ 0 ∷ 0 ∷ []
unfolding u32_bytes
older_epoch_not_counted_is = refl

pub fifth_is : prints (played then_fifth (played older_epoch (played common first_trio))) ≡ common_mail ++ older_epoch_mail ++ fifth_mail
unfolding u32_bytes
fifth_is = refl

pub late_member_is : prints (played late_member (played common first_trio)) ≡ common_mail ++ late_member_mail
unfolding u32_bytes
late_member_is = refl

pub committed_is : commit_ends (played late_member (played common first_trio)) ≡ 0 ∷ 2 ∷ 0 ∷ []
unfolding u32_bytes
committed_is = refl

pub late_messages_is : prints (played late_messages (played late_member (played common first_trio))) ≡ common_mail ++ late_member_mail ++ (m 2 (codes "ask") 3 ∷ [])
unfolding u32_bytes
late_messages_is = refl

pub late_ends_is : ends_of (played late_messages (played late_member (played common first_trio))) ≡ 2 ∷ 2 ∷ 1 ∷ []
unfolding u32_bytes
late_ends_is = refl
