-- A Subscribe's conversation with its hub.
use Rattle.std.proofs.Common.{◌≡◌, ℕ, List, Option, Some, Result, Ok, Err, refl, ap, subst, ◌∙◌}
use Rattle.std.specs.Prelude.{OnErr}
use Rattle.std.specs.declared.alloc.AllocError.{AllocError}
use Rattle.command_fields.specs.declared.response.ResponseCode.TheVariants as code
use Rattle.stream_terms.specs.Views.{name_of}
use Rattle.hub_terms.specs.declared.terms.Found.{Found}
use Rattle.hub_terms.specs.Calls.{Words, Finding, Joining}
use Rattle.hub_terms.specs.Meaning.{HubMeaning}
use Rattle.hub_terms.specs.Programs.{Runs, asking}
use Rattle.session_tables.specs.Opening.{Outcome, says}
use Rattle.session_tables.specs.Subscribing.{with_stream, put_slot, counted}
use Rattle.session_tables.specs.declared.reply.Reply.{Reply}
use Rattle.active_groups.specs.declared.consumer.ConsumerId.{ConsumerId}
use Rattle.session_tables.specs.declared.tables.Subscription.{Subscription}
use Rattle.session_tables.specs.declared.tables.Tables.{Tables}
use Rattle.session_core.specs.declared.consuming.Wish.{Wish}
use Rattle.session_core.specs.Consuming.{consumer, subscribe_reply, with_subscription, single_one, joined, join_group, JoinsNone, WasRefused, SubscribeLost}

told : (t t1 : Tables) (a b : Reply) → t1 ≡ t → a ≡ b → says t1 a ≡ says t b
told t t1 a b tables reply = ap (λ (x : Tables). says x a) tables ∙ ap (says t) reply

pub joins : {S : Type 0} (m : HubMeaning S) (t t1 t2 : Tables) (w : Wish) (stream epoch : ℕ) (group : Words) (who : ConsumerId) (s : Subscription) (h h1 : S) (u : Unit {0}) (reply : Reply)
    → t1 ≡ record t { streams = with_stream stream w.stream t.streams } → who ≡ consumer t1 t1.subscribed → m.does (Joining stream group who) h (Ok u) h1 → s ≡ single_one w stream epoch t1.subscribed → t2 ≡ put_slot w.id (Some s) t1 → reply ≡ subscribe_reply w code.Ok
    → Runs m (asking (Joining stream group (consumer t t.subscribed)) (joined t w stream epoch)) h (says t2 reply) h1
joins {S} m t t1 t2 w stream epoch group who s h h1 u reply knows same does one tables is =
    let by : ConsumerId = consumer t t.subscribed in
    let joins_it : m.does (Joining stream group by) h (Ok u) h1 = subst (λ (c : ConsumerId). m.does (Joining stream group c) h (Ok u) h1) (same ∙ ap (λ (x : Tables). consumer x x.subscribed) knows) does in
    let single : s ≡ single_one w stream epoch t.subscribed = one ∙ ap (λ (x : Tables). single_one w stream epoch x.subscribed) knows in
    let keeps : t2 ≡ with_subscription w (single_one w stream epoch t.subscribed) t = tables ∙ ap (λ (x : Tables). put_slot w.id (Some s) x) knows ∙ ap (λ (x : Subscription). put_slot w.id (Some x) (record t { streams = with_stream stream w.stream t.streams })) single in
    (Ok u, h1, joins_it, (told (with_subscription w (single_one w stream epoch t.subscribed) t) t2 reply (subscribe_reply w code.Ok) keeps is, refl))

-- a group by the name that was found
pub by_name : {S : Type 0} (m : HubMeaning S) (t : Tables) (w : Wish) (stream epoch : ℕ) (found name : Option Words) (h : S) (got : Outcome) (h1 : S)
    → found ≡ name → Runs m (join_group t w stream epoch found) h got h1 → Runs m (join_group t w stream epoch name) h got h1
by_name m t w stream epoch found name h got h1 is run = subst (λ (x : Option Words). Runs m (join_group t w stream epoch x) h got h1) is run

-- ---- want of memory

pub on_err : {A E P : Type 0} (r : Result A E) → P → OnErr r P
on_err (Ok a) p = tt
on_err (Err e) p = p

pub if_err : {A E P Q : Type 0} (r : Result A E) → (P → Q) → OnErr r P → OnErr r Q
if_err (Ok a) f p = tt
if_err (Err e) f p = f p

pub joining_refused : {S : Type 0} (m : HubMeaning S) (t : Tables) (w : Wish) (stream : ℕ) (group : Words) (who : ConsumerId) (e : AllocError) (h h1 : S)
    → who ≡ consumer t t.subscribed → m.does (Joining stream group who) h (Err e) h1 → JoinsNone m t w h h1
joining_refused m t w stream group who e h h1 same does = WasRefused stream group e (subst (λ (c : ConsumerId). m.does (Joining stream group c) h (Err e) h1) same does)

pub subscribe_lost : {S : Type 0} (m : HubMeaning S) (t t1 : Tables) (w : Wish) (name : List ℕ) (found : Found) (h0 h h1 : S)
    → t1 ≡ counted t → name ≡ name_of w.stream → m.does (Finding name) h0 found h → JoinsNone m t1 w h h1 → SubscribeLost m t w h0 h1
subscribe_lost m t t1 w name found h0 h h1 counts same does none = record {
  found = found;
  hub = h;
  asked = subst (λ (n : List ℕ). m.does (Finding n) h0 found h) same does;
  joins_none = subst (λ (x : Tables). JoinsNone m x w h h1) counts none;
}
