-- Conversations of many questions, one for each item of a list.
use Rattle.std.proofs.Common.{◌≡◌, ℕ, suc, ◌+◌, ◌<◌, ◌≤◌, List, [], ◌∷◌, ◌++◌, length, get_or, drop, Option, Some, None, refl, sym, ap, subst, ◌∙◌, arith}
use Rattle.std.proofs.Math.Seq.{drop-cons}
use Rattle.std.proofs.lemmas.List.{drop_all, get_or_default}
use Rattle.command_admin.specs.declared.item.StreamMetadata.{StreamMetadata}
use Rattle.stream_terms.specs.Views.{name_of}
use Rattle.hub_terms.specs.declared.terms.Found.{Found}
use Rattle.hub_terms.specs.Calls.{Words, Finding}
use Rattle.hub_terms.specs.Meaning.{HubMeaning}
use Rattle.hub_terms.specs.Programs.{Runs}
use Rattle.session_tables.specs.Opening.{Outcome, says, silent}
use Rattle.session_tables.specs.declared.reply.Reply.TheVariants as say
use Rattle.session_tables.specs.declared.tables.SessionEnd.TheVariants as ends
use Rattle.session_tables.specs.declared.tables.Subscription.{Subscription}
use Rattle.session_tables.specs.declared.tables.Tables.{Tables}
use Rattle.session_core.specs.Streams.{metadata_of, metadata_from, metadata_row}
use Rattle.session_core.specs.Living.{Left, ends_by, leaves_then, single_of, all_leave}

-- Behind the names before this place, a conversation over the others is one over all.
abbrev pub AskedSo : {S : Type 0} → HubMeaning S → Tables → ℕ → List Words → ℕ → List StreamMetadata → S → S → Type 0
AskedSo {S} m t corr names i told h0 h = (got : Outcome) (new : S) → Runs m (metadata_from t corr (drop i names) told) h got new → Runs m (metadata_row t corr names) h0 got new

pub asked_none : {S : Type 0} (m : HubMeaning S) (t : Tables) (corr : ℕ) (names : List Words) (h : S) → AskedSo m t corr names 0 [] h h
asked_none m t corr names h got new run = run

pub asked_more : {S : Type 0} (m : HubMeaning S) (t : Tables) (corr : ℕ) (names : List Words) (i : ℕ) (told told1 : List StreamMetadata) (h0 h h1 : S) (name stream : Words) (found : Found)
    → AskedSo m t corr names i told h0 h → i < length names → name ≡ get_or names i name → m.does (Finding (name_of name)) h found h1 → stream ≡ name → told1 ≡ told ++ metadata_of stream found ∷ [] → AskedSo m t corr names (i + 1) told1 h0 h1
asked_more {S} m t corr names i told told1 h0 h h1 name stream found so lt is does same wrote got new run =
    let next : suc i ≡ i + 1 = omega arith in
    let ahead : drop i names ≡ name ∷ drop (i + 1) names = drop-cons names i name lt ∙ ap (λ (x : Words). x ∷ drop (suc i) names) (sym is) ∙ ap (λ (n : ℕ). name ∷ drop n names) next in
    let here : Runs m (metadata_from t corr (drop (i + 1) names) (told ++ metadata_of name found ∷ [])) h1 got new = subst (λ (x : List StreamMetadata). Runs m (metadata_from t corr (drop (i + 1) names) x) h1 got new) (wrote ∙ ap (λ (x : Words). told ++ metadata_of x found ∷ []) same) run in
    so got new (subst (λ (xs : List Words). Runs m (metadata_from t corr xs told) h got new) (sym ahead) (found, h1, does, here))

pub asked_all : {S : Type 0} (m : HubMeaning S) (t : Tables) (corr : ℕ) (names : List Words) (i : ℕ) (told : List StreamMetadata) (h0 h : S)
    → AskedSo m t corr names i told h0 h → length names ≤ i → Runs m (metadata_row t corr names) h0 (says t (say.Metadata corr told)) h
asked_all {S} m t corr names i told h0 h so le =
    so (says t (say.Metadata corr told)) h (subst (λ (xs : List Words). Runs m (metadata_from t corr xs told) h (says t (say.Metadata corr told)) h) (sym (drop_all i names le)) (refl, refl))

-- ---- leaving groups

-- Behind the places before this one, a conversation over the others is one over all.
abbrev pub LeftSo : {S : Type 0} → HubMeaning S → Tables → List (Option Subscription) → ℕ → S → S → Type 0
LeftSo {S} m t slots i h0 h = (got : Outcome) (new : S) → Runs m (all_leave t (drop i slots)) h got new → Runs m (all_leave t slots) h0 got new

pub left_none : {S : Type 0} (m : HubMeaning S) (t : Tables) (slots : List (Option Subscription)) (h : S) → LeftSo m t slots 0 h h
left_none m t slots h got new run = run

one_left : {S : Type 0} (m : HubMeaning S) (t : Tables) (single : Option ℕ) (more : List (Option Subscription)) (h h1 : S) (got : Outcome) (new : S)
    → Left m t single h h1 → Runs m (all_leave t more) h1 got new → Runs m (leaves_then t single (all_leave t more)) h got new
one_left {S} m t None more h h1 got new left run = subst (λ (x : S). Runs m (all_leave t more) x got new) left run
one_left m t (Some serial) more h h1 got new left run = (tt, h1, left, run)

left_more : {S : Type 0} (m : HubMeaning S) (t : Tables) (slots : List (Option Subscription)) (i : ℕ) (h0 h h1 : S) (s : Option Subscription)
    → LeftSo m t slots i h0 h → i < length slots → s ≡ get_or slots i s → Left m t (single_of s) h h1 → LeftSo m t slots (i + 1) h0 h1
left_more {S} m t slots i h0 h h1 s so lt is left got new run =
    let next : suc i ≡ i + 1 = omega arith in
    let ahead : drop i slots ≡ s ∷ drop (i + 1) slots = drop-cons slots i s lt ∙ ap (λ (x : Option Subscription). x ∷ drop (suc i) slots) (sym is) ∙ ap (λ (n : ℕ). s ∷ drop n slots) next in
    let here = one_left m t (single_of s) (drop (i + 1) slots) h h1 got new left run in
    so got new (subst (λ (xs : List (Option Subscription)). Runs m (all_leave t xs) h got new) (sym ahead) here)

-- the same, of what stands in a place, whatever stands for none
pub left_slot : {S : Type 0} (m : HubMeaning S) (t : Tables) (slots : List (Option Subscription)) (i : ℕ) (h0 h h1 : S) (d : Option Subscription)
    → LeftSo m t slots i h0 h → i < length slots → Left m t (single_of (get_or slots i d)) h h1 → LeftSo m t slots (i + 1) h0 h1
left_slot m t slots i h0 h h1 d so lt left = left_more m t slots i h0 h h1 (get_or slots i d) so lt (get_or_default slots i d (get_or slots i d) lt) left

pub left_all : {S : Type 0} (m : HubMeaning S) (t : Tables) (slots : List (Option Subscription)) (i : ℕ) (h0 h : S)
    → LeftSo m t slots i h0 h → length slots ≤ i → Runs m (all_leave t slots) h0 (silent (ends_by ends.PeerEnded t)) h
left_all {S} m t slots i h0 h so le =
    so (silent (ends_by ends.PeerEnded t)) h (subst (λ (xs : List (Option Subscription)). Runs m (all_leave t xs) h (silent (ends_by ends.PeerEnded t)) h) (sym (drop_all i slots le)) (refl, refl))
