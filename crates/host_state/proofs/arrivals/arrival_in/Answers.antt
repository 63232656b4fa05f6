use Rattle.std.proofs.Common.{◌≡◌, subst}
use Rattle.std.specs.Prelude.{IfSome}
use Rattle.std.proofs.lemmas.List.Elements.{All-pop}
use Rattle.flat_model.specs.declared.plugins.SetSpec.{SetSpec}
use Rattle.watcher_api.specs.Attachment.{IsRoomFor}
use Rattle.host_state.specs.declared.arrivals.ArrivalRoom.{ArrivalRoom}
use Rattle.host_state.proofs.arrivals.arrival_in.Goals as goal

pub seated-requires-clause-room : goal.seated-requires-clause-room
seated-requires-clause-room g c =
    let both = All-pop {X = ArrivalRoom g.row.W.Denot g.W.Watcher} (λ place. place.spec ≡ c.args.spec.now) c.args.places.now.items
    c.pop.new.self.items c.pop.result c.pop.ensures.items c.requires.specs in
    let it : c.unwrap-place.result.spec ≡ c.args.spec.now =
    subst (λ o. IfSome o (λ place. place.spec ≡ c.args.spec.now)) c.unwrap-place.ensures both.1 in
    subst (λ (s : SetSpec). IsRoomFor s c.unwrap-place.result.seats) it c.unwrap-place.result.enough

pub returns-clause-spec : goal.returns-clause-spec
returns-clause-spec g c =
    let both = All-pop {X = ArrivalRoom g.row.W.Denot g.W.Watcher} (λ place. place.spec ≡ c.args.spec.now) c.args.places.now.items
    c.pop.new.self.items c.pop.result c.pop.ensures.items c.requires.specs in
    subst (λ o. IfSome o (λ place. place.spec ≡ c.args.spec.now)) c.unwrap-place.ensures both.1

pub returns-clause-specs : goal.returns-clause-specs
returns-clause-specs g c =
    (All-pop {X = ArrivalRoom g.row.W.Denot g.W.Watcher} (λ place. place.spec ≡ c.args.spec.now) c.args.places.now.items
    c.pop.new.self.items c.pop.result c.pop.ensures.items c.requires.specs).0
