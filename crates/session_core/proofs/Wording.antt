-- The frames of replies, one behind another.
use Rattle.std.proofs.Common.{◌≡◌, ℕ, List, [], ◌∷◌, ◌++◌, Option, None, Some, refl, sym, ap, subst, ◌∙◌, append_assoc}
use Rattle.std.specs.Prelude.{option_to_list}
use Rattle.std.proofs.lemmas.List.{append-nil}
use Rattle.command_fields.specs.declared.response.ResponseCode.{ResponseCode}
use Rattle.command_all.specs.declared.identity.Identity.{Identity}
use Rattle.session_tables.specs.Opening.{Outcome, says, closed, next_asked}
use Rattle.session_tables.specs.Spelling.{frames_of, some_frames, all_frames, IsSayable}
use Rattle.session_tables.specs.declared.reply.Reply.{Reply}
use Rattle.session_tables.specs.declared.reply.Reply.TheVariants as say
use Rattle.session_tables.specs.declared.tables.Tables.{Tables}

pub frames_join : (who : Identity) (a b : List Reply) → all_frames who (a ++ b) ≡ all_frames who a ++ all_frames who b
frames_join who [] b = refl
frames_join who (x ∷ xs) b = ap (λ (r : List ℕ). frames_of who x ++ r) (frames_join who xs b) ∙ sym (append_assoc (frames_of who x) (all_frames who xs) (all_frames who b))

pub frames_one : (who : Identity) (reply : Reply) → all_frames who (reply ∷ []) ≡ frames_of who reply
frames_one who reply = append-nil (frames_of who reply)

pub frames_some : (who : Identity) (reply : Option Reply) → all_frames who (option_to_list reply) ≡ some_frames who reply
frames_some who None = refl
frames_some who (Some reply) = frames_one who reply

-- bytes that are those of more replies, behind those of what was said
pub frames_behind : (who : Identity) (said more : List Reply) (add out0 out1 out2 : List ℕ) → out1 ≡ out0 ++ all_frames who said → out2 ≡ out1 ++ add → all_frames who more ≡ add → out2 ≡ out0 ++ all_frames who (said ++ more)
frames_behind who said more add out0 out1 out2 one two is =
    two ∙ ap (λ (o : List ℕ). o ++ add) one ∙ append_assoc out0 (all_frames who said) add
    ∙ ap (λ (x : List ℕ). out0 ++ x) (ap (λ (y : List ℕ). all_frames who said ++ y) (sym is) ∙ sym (frames_join who said more))

-- the server's Close has a spelling
pub close_sayable : (response : ResponseCode) (t t1 : Tables) (reply : Reply) → says t1 reply ≡ closed response t → IsSayable reply
close_sayable response t t1 reply closes =
    let same : reply ≡ say.Close (next_asked t.asked) response = cc (ap (λ (o : Outcome). o.reply) closes) in
    subst IsSayable (sym same) tt
