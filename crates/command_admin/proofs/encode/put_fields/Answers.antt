use Rattle.std.proofs.Common.{sym, arith}
use Rattle.std.proofs.lemmas.List.{append-nil}
use Rattle.command_fields.proofs.AddLaws.{adds_whole, command_as}
use Rattle.command_admin.specs.Commands.{admin_table}
use Rattle.command_admin.proofs.encode.put_fields.Goals as goal

pub put_three-requires : goal.put_three-requires
put_three-requires c = (command_as admin_table c.in-Create.is c.requires).1

pub put_two-requires : goal.put_two-requires
put_two-requires c = (command_as admin_table c.in-Delete.is c.requires).1

pub put_two-requires-in-Metadata : goal.put_two-requires-in-Metadata
put_two-requires-in-Metadata c = (command_as admin_table c.in-Metadata.is c.requires).1

pub put_three-requires-in-MetadataAnswer : goal.put_three-requires-in-MetadataAnswer
put_three-requires-in-MetadataAnswer c = (command_as admin_table c.in-MetadataAnswer.is c.requires).1

pub put_two-requires-in-MetadataUpdate : goal.put_two-requires-in-MetadataUpdate
put_two-requires-in-MetadataUpdate c = (command_as admin_table c.in-MetadataUpdate.is c.requires).1

pub put_two-requires-in-PeerProperties : goal.put_two-requires-in-PeerProperties
put_two-requires-in-PeerProperties c = (command_as admin_table c.in-PeerProperties.is c.requires).1

pub put_answer-requires : goal.put_answer-requires
put_answer-requires c = (command_as admin_table c.in-PeerAnswer.is c.requires).1.1.1

pub put_answer-requires-in-MechanismAnswer : goal.put_answer-requires-in-MechanismAnswer
put_answer-requires-in-MechanismAnswer c = (command_as admin_table c.in-MechanismAnswer.is c.requires).1.1.1

pub put_three-requires-in-SaslAuthenticate : goal.put_three-requires-in-SaslAuthenticate
put_three-requires-in-SaslAuthenticate c = (command_as admin_table c.in-SaslAuthenticate.is c.requires).1

pub put_answer-requires-in-SaslAnswer : goal.put_answer-requires-in-SaslAnswer
put_answer-requires-in-SaslAnswer c = (command_as admin_table c.in-SaslAnswer.is c.requires).1.1.1

pub put_two-requires-in-Tune : goal.put_two-requires-in-Tune
put_two-requires-in-Tune c = (command_as admin_table c.in-Tune.is c.requires).1

pub put_two-requires-in-TuneAnswer : goal.put_two-requires-in-TuneAnswer
put_two-requires-in-TuneAnswer c = (command_as admin_table c.in-TuneAnswer.is c.requires).1

pub put_two-requires-in-OpenHost : goal.put_two-requires-in-OpenHost
put_two-requires-in-OpenHost c = (command_as admin_table c.in-OpenHost.is c.requires).1

pub put_answer-requires-in-HostAnswer : goal.put_answer-requires-in-HostAnswer
put_answer-requires-in-HostAnswer c = (command_as admin_table c.in-HostAnswer.is c.requires).1.1.1

pub put_three-requires-in-Close : goal.put_three-requires-in-Close
put_three-requires-in-Close c = (command_as admin_table c.in-Close.is c.requires).1

pub put_three-requires-in-Route : goal.put_three-requires-in-Route
put_three-requires-in-Route c = (command_as admin_table c.in-Route.is c.requires).1

pub put_answer-requires-in-RouteAnswer : goal.put_answer-requires-in-RouteAnswer
put_answer-requires-in-RouteAnswer c = (command_as admin_table c.in-RouteAnswer.is c.requires).1.1.1

pub put_two-requires-in-Partitions : goal.put_two-requires-in-Partitions
put_two-requires-in-Partitions c = (command_as admin_table c.in-Partitions.is c.requires).1

pub put_answer-requires-in-PartitionsAnswer : goal.put_answer-requires-in-PartitionsAnswer
put_answer-requires-in-PartitionsAnswer c = (command_as admin_table c.in-PartitionsAnswer.is c.requires).1.1.1

pub put_three-requires-in-ConsumerUpdate : goal.put_three-requires-in-ConsumerUpdate
put_three-requires-in-ConsumerUpdate c = let fits = (command_as admin_table c.in-ConsumerUpdate.is c.requires).1 in (fits.0, (fits.1.0, omega (arith, fits.1.1)))

pub put_answer-requires-in-UpdateAnswer : goal.put_answer-requires-in-UpdateAnswer
put_answer-requires-in-UpdateAnswer c = (command_as admin_table c.in-UpdateAnswer.is c.requires).1.1.1

pub put_two-requires-in-ExchangeVersions : goal.put_two-requires-in-ExchangeVersions
put_two-requires-in-ExchangeVersions c = (command_as admin_table c.in-ExchangeVersions.is c.requires).1

pub put_answer-requires-in-VersionsAnswer : goal.put_answer-requires-in-VersionsAnswer
put_answer-requires-in-VersionsAnswer c = (command_as admin_table c.in-VersionsAnswer.is c.requires).1.1.1

pub put_two-requires-in-StreamStats : goal.put_two-requires-in-StreamStats
put_two-requires-in-StreamStats c = (command_as admin_table c.in-StreamStats.is c.requires).1

pub put_answer-requires-in-StatsAnswer : goal.put_answer-requires-in-StatsAnswer
put_answer-requires-in-StatsAnswer c = (command_as admin_table c.in-StatsAnswer.is c.requires).1.1.1

pub put_super_stream-requires-clause-partitions : goal.put_super_stream-requires-clause-partitions
put_super_stream-requires-clause-partitions c = (command_as admin_table c.in-CreateSuper.is c.requires).1.1.1.0

pub put_super_stream-requires-clause-keys : goal.put_super_stream-requires-clause-keys
put_super_stream-requires-clause-keys c = (command_as admin_table c.in-CreateSuper.is c.requires).1.1.1.1.0

pub put_super_stream-requires-clause-properties : goal.put_super_stream-requires-clause-properties
put_super_stream-requires-clause-properties c = (command_as admin_table c.in-CreateSuper.is c.requires).1.1.1.1.1

pub put_two-requires-in-DeleteSuper : goal.put_two-requires-in-DeleteSuper
put_two-requires-in-DeleteSuper c = (command_as admin_table c.in-DeleteSuper.is c.requires).1

pub put_two-requires-in-Plain : goal.put_two-requires-in-Plain
put_two-requires-in-Plain c = (command_as admin_table c.in-Plain.is c.requires).1

pub returns-in-Create : goal.returns-in-Create
returns-in-Create c = rw c.in-Create.is c.put_three.ensures

pub returns-in-Delete : goal.returns-in-Delete
returns-in-Delete c = rw c.in-Delete.is c.put_two.ensures

pub returns-in-Metadata : goal.returns-in-Metadata
returns-in-Metadata c = rw c.in-Metadata.is c.put_two-in-Metadata.ensures

pub returns-in-MetadataAnswer : goal.returns-in-MetadataAnswer
returns-in-MetadataAnswer c = rw c.in-MetadataAnswer.is c.put_three-in-MetadataAnswer.ensures

pub returns-in-MetadataUpdate : goal.returns-in-MetadataUpdate
returns-in-MetadataUpdate c = rw c.in-MetadataUpdate.is c.put_two-in-MetadataUpdate.ensures

pub returns-in-PeerProperties : goal.returns-in-PeerProperties
returns-in-PeerProperties c = rw c.in-PeerProperties.is c.put_two-in-PeerProperties.ensures

pub returns-in-PeerAnswer : goal.returns-in-PeerAnswer
returns-in-PeerAnswer c = rw c.in-PeerAnswer.is c.put_answer.ensures

pub returns-in-SaslHandshake : goal.returns-in-SaslHandshake
returns-in-SaslHandshake c = rw c.in-SaslHandshake.is (adds_whole c.put_u32.result c.args.out.now c.put_u32.new.out _ c.put_u32.ensures.ok c.put_u32.ensures.err)

pub returns-in-MechanismAnswer : goal.returns-in-MechanismAnswer
returns-in-MechanismAnswer c = rw c.in-MechanismAnswer.is c.put_answer-in-MechanismAnswer.ensures

pub returns-in-SaslAuthenticate : goal.returns-in-SaslAuthenticate
returns-in-SaslAuthenticate c = rw c.in-SaslAuthenticate.is c.put_three-in-SaslAuthenticate.ensures

pub returns-in-SaslAnswer : goal.returns-in-SaslAnswer
returns-in-SaslAnswer c = rw c.in-SaslAnswer.is c.put_answer-in-SaslAnswer.ensures

pub returns-in-Tune : goal.returns-in-Tune
returns-in-Tune c = rw c.in-Tune.is c.put_two-in-Tune.ensures

pub returns-in-TuneAnswer : goal.returns-in-TuneAnswer
returns-in-TuneAnswer c = rw c.in-TuneAnswer.is c.put_two-in-TuneAnswer.ensures

pub returns-in-OpenHost : goal.returns-in-OpenHost
returns-in-OpenHost c = rw c.in-OpenHost.is c.put_two-in-OpenHost.ensures

pub returns-in-HostAnswer : goal.returns-in-HostAnswer
returns-in-HostAnswer c = rw c.in-HostAnswer.is c.put_answer-in-HostAnswer.ensures

pub returns-in-Close : goal.returns-in-Close
returns-in-Close c = rw c.in-Close.is c.put_three-in-Close.ensures

pub returns-in-Heartbeat : goal.returns-in-Heartbeat
returns-in-Heartbeat c = rw c.in-Heartbeat.is (sym (append-nil c.args.out.now))

pub returns-in-Route : goal.returns-in-Route
returns-in-Route c = rw c.in-Route.is c.put_three-in-Route.ensures

pub returns-in-RouteAnswer : goal.returns-in-RouteAnswer
returns-in-RouteAnswer c = rw c.in-RouteAnswer.is c.put_answer-in-RouteAnswer.ensures

pub returns-in-Partitions : goal.returns-in-Partitions
returns-in-Partitions c = rw c.in-Partitions.is c.put_two-in-Partitions.ensures

pub returns-in-PartitionsAnswer : goal.returns-in-PartitionsAnswer
returns-in-PartitionsAnswer c = rw c.in-PartitionsAnswer.is c.put_answer-in-PartitionsAnswer.ensures

pub returns-in-ConsumerUpdate : goal.returns-in-ConsumerUpdate
returns-in-ConsumerUpdate c = rw c.in-ConsumerUpdate.is c.put_three-in-ConsumerUpdate.ensures

pub returns-in-UpdateAnswer : goal.returns-in-UpdateAnswer
returns-in-UpdateAnswer c = rw c.in-UpdateAnswer.is c.put_answer-in-UpdateAnswer.ensures

pub returns-in-ExchangeVersions : goal.returns-in-ExchangeVersions
returns-in-ExchangeVersions c = rw c.in-ExchangeVersions.is c.put_two-in-ExchangeVersions.ensures

pub returns-in-VersionsAnswer : goal.returns-in-VersionsAnswer
returns-in-VersionsAnswer c = rw c.in-VersionsAnswer.is c.put_answer-in-VersionsAnswer.ensures

pub returns-in-StreamStats : goal.returns-in-StreamStats
returns-in-StreamStats c = rw c.in-StreamStats.is c.put_two-in-StreamStats.ensures

pub returns-in-StatsAnswer : goal.returns-in-StatsAnswer
returns-in-StatsAnswer c = rw c.in-StatsAnswer.is c.put_answer-in-StatsAnswer.ensures

pub returns-in-CreateSuper : goal.returns-in-CreateSuper
returns-in-CreateSuper c = rw c.in-CreateSuper.is c.put_super_stream.ensures

pub returns-in-DeleteSuper : goal.returns-in-DeleteSuper
returns-in-DeleteSuper c = rw c.in-DeleteSuper.is c.put_two-in-DeleteSuper.ensures

pub returns-in-Plain : goal.returns-in-Plain
returns-in-Plain c = rw c.in-Plain.is c.put_two-in-Plain.ensures
