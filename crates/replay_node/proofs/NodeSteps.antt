-- What a node's fields stand for before and after a line.
use Rattle.std.proofs.Common.{◌≡◌, ◌==◌, ℕ, Bool, true, false, cond, not, is_some, List, [], ◌∷◌, ◌++◌, get_or, map, All, Option, Some, None, refl, sym, ap, subst, ◌∙◌}
use Rattle.std.specs.Prelude.{IsSome, IsTrue, ◌↔◌, MatchOption}
use Rattle.std.specs.List.{AllByRecursion}
use Rattle.std.proofs.lemmas.List.Elements.{All-from_recursion, recursion_from_All, All-append}
use Rattle.chunk_format.specs.declared.chunk.Chunk.{Chunk}
use Rattle.replay_node.specs.declared.node.Node.TheInside.{Inside}
use Rattle.replay_node.specs.declared.session.Offer.{Offer}
use Rattle.replay_node.specs.declared.session.Link.{Link}
use Rattle.replay_node.specs.declared.output.Commits.{Commits}
use Rattle.command_fields.specs.Tables.{FitsIn}
use Rattle.command_data.specs.declared.command.DataCommand.{DataCommand}
use Rattle.command_data.specs.Commands.{data_table}
use Rattle.frame_commands.specs.Given.{CommandsOf}
use Rattle.replay_node.specs.declared.session.Served.{Served}
use Rattle.script_text.specs.declared.script.ScriptLine.TheVariants.{Give}
use Rattle.replay_node.specs.Commands.{frame_max}
use Rattle.replay_node.specs.Sessions.{IsOffer, serve_all}
use Rattle.replay_node.specs.Commits.{end_behind}
use Rattle.replay_node.specs.NodeState.{NodeState, chunks_from, offer_pieces, end_of_list, queued_chunks, offers_of_others, find_link, put_link, send, GivesBytes, Refuses}
use Rattle.replay_node.specs.NodeFields.{node_of, IsNode, IsPlace, CommitsQueue}
use Rattle.replay_node.proofs.Laying.{end_of_all}
use Rattle.replay_node.proofs.Commanding.{queue_pieces, one_reading, each_in_frame, all_fit}
use Rattle.replay_node.proofs.Links.{place_is, place_finds}

abbrev pub node_with : Option (List ℕ) → List Link → List Chunk → List Offer → List Offer → NodeState
node_with stream links chunks queued unconfirmed = record { stream = stream; links = links; chunks = chunks; queued = queued; unconfirmed = unconfirmed }

pub commits_queue : (node : NodeState) (n : Inside) (commits : Commits) (offers : List Offer) → node_of n ≡ node → IsNode n → offers ≡ n.queued.items → commits.chunks.items ≡ chunks_from n.end (offer_pieces offers)
    → commits.end ≡ end_behind n.end (offer_pieces offers) → CommitsQueue node commits
commits_queue node n commits offers view is same chunks end =
    let here : chunks_from n.end (offer_pieces offers) ≡ queued_chunks (node_of n) =
    ap (λ (l : List Offer). chunks_from n.end (offer_pieces l)) same ∙ ap (λ (k : ℕ). chunks_from k (offer_pieces n.queued.items)) is.end in
    let behind : end_behind n.end (offer_pieces offers) ≡ end_of_list (n.chunks.items ++ queued_chunks (node_of n)) =
    ap (λ (l : List Offer). end_behind n.end (offer_pieces l)) same ∙ ap (λ (k : ℕ). end_behind k (offer_pieces n.queued.items)) is.end
    ∙ sym (end_of_all n.chunks.items (offer_pieces n.queued.items) (queue_pieces n.queued.items (recursion_from_All IsOffer n.queued.items is.queued))) in
    subst (λ (s : NodeState). CommitsQueue s commits) view (record { chunks = chunks ∙ here; end = end ∙ behind })

-- ---- connections

-- the connection at a place that was found
pub link_there : (old : NodeState) (n : Inside) (one other : List Link) (k connection : ℕ) (x : Link) → node_of n ≡ old → one ≡ n.links.items → other ≡ n.links.items → IsPlace k connection one → x ≡ get_or other k x
    → find_link connection old.links ≡ Some x
link_there old n one other k connection x view first second place at =
    let links : old.links ≡ one = sym (ap (λ (s : NodeState). s.links) view) ∙ sym first in
    let here : x ≡ place.link = place_is k connection one x place (at ∙ ap (λ (l : List Link). get_or l k x) (second ∙ sym first)) in
    ap (find_link connection) links ∙ place_finds k connection one place ∙ ap Some (sym here)

pub give_no_read : (old : NodeState) (connection : ℕ) (bytes held : List ℕ) (x : Link) → find_link connection old.links ≡ Some x → held ≡ x.rest
    → ((commands : List DataCommand) (rest : List ℕ) → CommandsOf frame_max (held ++ bytes) commands rest → ⊥) → Refuses old (Give connection bytes)
give_no_read old connection bytes held x there is none outputs new gives =
    let same : gives.link ≡ x = let other = gives.is_there in cc in
    none gives.commands gives.rest (subst (λ (l : List ℕ). CommandsOf frame_max (l ++ bytes) gives.commands gives.rest) (ap (λ (l : Link). l.rest) same ∙ sym is) gives.reads)

pub give_no_serve : (old : NodeState) (connection : ℕ) (bytes stream : List ℕ) (x : Link) (commands : List DataCommand) (rest : List ℕ) → find_link connection old.links ≡ Some x → old.stream ≡ Some stream
    → CommandsOf frame_max (x.rest ++ bytes) commands rest → serve_all connection stream x.publishers commands ≡ None → Refuses old (Give connection bytes)
give_no_serve old connection bytes stream x commands rest there live reads none outputs new gives =
    let same : gives.link ≡ x = let other = gives.is_there in cc in
    let name : gives.stream ≡ stream = let other = gives.is_live in cc in
    let read : CommandsOf frame_max (x.rest ++ bytes) gives.commands gives.rest = subst (λ (l : Link). CommandsOf frame_max (l.rest ++ bytes) gives.commands gives.rest) same gives.reads in
    let all : gives.commands ≡ commands = (one_reading (x.rest ++ bytes) gives.commands commands gives.rest rest read reads).0 in
    let serves : serve_all connection stream x.publishers commands ≡ Some gives.served =
    ap (λ (s : List ℕ). serve_all connection s x.publishers commands) (sym name) ∙ ap (λ (l : Link). serve_all connection gives.stream l.publishers commands) (sym same)
    ∙ ap (serve_all connection gives.stream gives.link.publishers) (sym all) ∙ gives.serves in
    absurd cc

pub gives_node : (old : NodeState) (n : Inside) (connection : ℕ) (bytes stream : List ℕ) (x : Link) (commands : List DataCommand) (rest : List ℕ) (served : Served) (links : List Link) (queued : List Offer) → node_of n ≡ old
    → find_link connection old.links ≡ Some x → old.stream ≡ Some stream → CommandsOf frame_max (x.rest ++ bytes) commands rest → serve_all connection stream x.publishers commands ≡ Some served
    → links ≡ put_link (record { number = connection; rest = rest; publishers = served.publishers }) n.links.items → queued ≡ n.queued.items ++ served.offers
    → GivesBytes old connection bytes (map (send connection) served.answers) (record { stream = n.stream; links = links; chunks = n.chunks.items; queued = queued; unconfirmed = n.unconfirmed.items })
gives_node old n connection bytes stream x commands rest served links queued view there live reads serves put more =
    let same : record { stream = n.stream; links = links; chunks = n.chunks.items; queued = queued; unconfirmed = n.unconfirmed.items }
    ≡ record (node_of n) { links = put_link (record { number = connection; rest = rest; publishers = served.publishers }) n.links.items; queued = n.queued.items ++ served.offers } =
    ap (λ (l : List Link). node_with n.stream l n.chunks.items queued n.unconfirmed.items) put
    ∙ ap (λ (q : List Offer). node_with n.stream (put_link (record { number = connection; rest = rest; publishers = served.publishers }) n.links.items) n.chunks.items q n.unconfirmed.items) more in
    record {
      stream = stream;
      is_live = live;
      link = x;
      is_there = there;
      commands = commands;
      rest = rest;
      reads = reads;
      served = served;
      serves = serves;
      written = refl;
      is = same ∙ ap (λ (s : NodeState). record s { links = put_link (record { number = connection; rest = rest; publishers = served.publishers }) s.links; queued = s.queued ++ served.offers }) view;
    }

pub answers_fit : (stream : List ℕ) (name publishers : List ℕ) (connection : ℕ) (commands : List DataCommand) (rest : List ℕ) (served : Served) → CommandsOf frame_max stream commands rest → serve_all connection name publishers commands ≡ Some served
    → All (FitsIn data_table) served.answers × All IsOffer served.offers
answers_fit stream name publishers connection commands rest served reads serves =
    let fit = all_fit connection name publishers commands served (each_in_frame stream commands rest reads) serves in
    (All-from_recursion (FitsIn data_table) served.answers fit.answers, All-from_recursion IsOffer served.offers fit.offers)

pub queued_more : (old more new : List Offer) → new ≡ old ++ more → All IsOffer old → All IsOffer more → All IsOffer new
queued_more old more new is p q = subst (All IsOffer) (sym is) (All-append IsOffer old more p q)

kept : (b : Bool) (offer : Offer) (rest : List Offer) → IsOffer offer → AllByRecursion IsOffer rest → AllByRecursion IsOffer (cond b (offer ∷ rest) rest)
kept true offer rest p q = (p, q)
kept false offer rest p q = q

others_by : (connection : ℕ) (offers : List Offer) → AllByRecursion IsOffer offers → AllByRecursion IsOffer (offers_of_others connection offers)
others_by connection [] each = tt
others_by connection (offer ∷ offers) each = kept (not (offer.connection == connection)) offer (offers_of_others connection offers) each.0 (others_by connection offers each.1)

pub others_fit : (connection : ℕ) (offers new : List Offer) → new ≡ offers_of_others connection offers → All IsOffer offers → All IsOffer new
others_fit connection offers new is each =
    subst (All IsOffer) (sym is) (All-from_recursion IsOffer (offers_of_others connection offers) (others_by connection offers (recursion_from_All IsOffer offers each)))

-- a place was found, or none
pub place_told : (o : Option ℕ) (b : Bool) (n : ℕ) (links : List Link) → is_some o ≡ not b → b ≡ false → MatchOption o (find_link n links ≡ None) (λ k. IsPlace k n links) → IsSome (find_link n links)
place_told None b n links told is place = absurd cc
place_told (Some k) b n links told is place = subst (λ (o : Option Link). IsSome o) (sym (place_finds k n links place)) refl

pub none_told : (o : Option ℕ) (b : Bool) (n : ℕ) (links : List Link) → is_some o ≡ not b → MatchOption o (find_link n links ≡ None) (λ k. IsPlace k n links) → IsTrue b ↔ (find_link n links ≡ None)
none_told None true n links told place = (λ t. place, λ e. refl)
none_told None false n links told place = absurd cc
none_told (Some k) true n links told place = absurd cc
none_told (Some k) false n links told place = (λ t. absurd cc, λ e. let other = place_finds k n links place in absurd cc)

pub polled_node : (old : NodeState) (n : Inside) (connection : ℕ) (unconfirmed : List Offer) → node_of n ≡ old → unconfirmed ≡ offers_of_others connection n.unconfirmed.items
    → node_with n.stream n.links.items n.chunks.items n.queued.items unconfirmed ≡ record old { unconfirmed = offers_of_others connection old.unconfirmed }
polled_node old n connection unconfirmed view is =
    ap (node_with n.stream n.links.items n.chunks.items n.queued.items) is ∙ ap (λ (s : NodeState). record s { unconfirmed = offers_of_others connection s.unconfirmed }) view

pub either_fit : (b : Bool) (xs ys zs : List Offer) → zs ≡ cond b xs ys → All IsOffer xs → All IsOffer ys → All IsOffer zs
either_fit true xs ys zs is p q = subst (All IsOffer) (sym is) p
either_fit false xs ys zs is p q = subst (All IsOffer) (sym is) q
